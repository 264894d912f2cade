-- Tokens as they are read.
use Rattle.std.specs.Prelude.{List, Option, Some, None}
use Rattle.tz_syntax.specs.Tokens.{TokenValue, before}
use Rattle.tz_syntax.specs.Tokens as values
use Rattle.tz_syntax.specs.declared.token.Token.{Token}
use Rattle.tz_syntax.specs.declared.token.Token.TheVariants.{Word, Number, Mark}

-- the token that was read
abbrev pub token_view : Token → TokenValue
token_view (Word text) = values.Word text.now
token_view (Number value) = values.Number value
token_view (Mark byte) = values.Mark byte

-- a token, where there is one, before others
abbrev pub before_maybe : Option Token → Option (List TokenValue) → Option (List TokenValue)
before_maybe None rest = rest
before_maybe (Some token) rest = before (Some (token_view token)) rest
