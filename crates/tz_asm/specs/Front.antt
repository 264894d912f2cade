-- What stands first among tokens, with the tokens behind it; none where something else does.
use Rattle.std.specs.Prelude.{ℕ, ◌==◌, Bool, true, false, List, [], ◌∷◌, Option, Some, None, if◌then◌else◌, map}
use Rattle.tz_syntax.specs.Tokens.{TokenValue}
use Rattle.tz_syntax.specs.Tokens as values
use Rattle.tz_syntax.specs.Views.{token_view}
use Rattle.tz_syntax.specs.declared.token.Token.{Token}

-- one reading after another
infixl 10 ◌>>=◌
abbrev pub ◌>>=◌ : {A B : Type 0} → Option A → (A → Option B) → Option B
None >>= f = None
(Some x) >>= f = f x

abbrev pub views : List Token → List TokenValue
views tokens = map token_view tokens

abbrev pub mark_at : ℕ → List TokenValue → Option (List TokenValue)
mark_at mark [] = None
mark_at mark (values.Word word ∷ more) = None
mark_at mark (values.Number n ∷ more) = None
mark_at mark (values.Mark byte ∷ more) = if byte == mark then Some more else None

-- any mark
abbrev pub some_mark_at : List TokenValue → Option (ℕ × List TokenValue)
some_mark_at [] = None
some_mark_at (values.Word word ∷ more) = None
some_mark_at (values.Number n ∷ more) = None
some_mark_at (values.Mark byte ∷ more) = Some (byte, more)

abbrev pub word_at : List TokenValue → Option (List ℕ × List TokenValue)
word_at [] = None
word_at (values.Word word ∷ more) = Some (word, more)
word_at (values.Number n ∷ more) = None
word_at (values.Mark byte ∷ more) = None

-- the number in front of tokens, and the tokens behind it
abbrev pub leading_number : List TokenValue → Option (ℕ × List TokenValue)
leading_number [] = None
leading_number (values.Word word ∷ more) = None
leading_number (values.Number n ∷ more) = Some (n, more)
leading_number (values.Mark byte ∷ more) = None

-- a number with a sign before it that was read
abbrev pub with_sign : Bool → Option (ℕ × List TokenValue) → Option (Bool × ℕ × List TokenValue)
with_sign negative None = None
with_sign negative (Some number) = Some (negative, number.0, number.1)

-- behind a minus, where there is one, else from the first token on
abbrev pub behind_minus : Option (List TokenValue) → List TokenValue → Option (Bool × ℕ × List TokenValue)
behind_minus None tokens = with_sign false (leading_number tokens)
behind_minus (Some more) tokens = with_sign true (leading_number more)

-- a number with its sign: whether a minus (45) stands before it, and the number behind that
unfoldable pub signed_at : List TokenValue → Option (Bool × ℕ × List TokenValue)
signed_at tokens = behind_minus (mark_at 45 tokens) tokens

-- the same behind `#` (35)
unfoldable pub constant_at : List TokenValue → Option (Bool × ℕ × List TokenValue)
constant_at tokens = mark_at 35 tokens >>= signed_at
