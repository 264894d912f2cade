-- Texts in a line of source.
use Rattle.std.specs.Prelude.{ℕ, ◌==◌, nat_le, Bool, true, false, ◌&&◌, if◌then◌else◌, List, [], ◌∷◌, Option, Some, None}
use Rattle.tz_asm.specs.declared.source.text.Turn.{Turn}
use Rattle.tz_asm.specs.declared.source.text.Turn.TheVariants.{Ends, Escapes, Puts, Fails}
use Rattle.tz_syntax.specs.Tokens.{TokenValue, tokens_of, without_comment}

-- a byte before what was read first
abbrev pub onto_read : ℕ → Option (List ℕ × List ℕ) → Option (List ℕ × List ℕ)
onto_read b None = None
onto_read b (Some read) = Some (b ∷ read.0, read.1)

-- what stands before the first `"` (34) of a line, and what behind it; none where a comment (59) or the end comes first
unfoldable pub quoted_at : List ℕ → Option (List ℕ × List ℕ)
quoted_at [] = None
quoted_at (b ∷ more) = if b == 59 then None else if b == 34 then Some ([], more) else onto_read b (quoted_at more)

-- what a character behind a `\` stands for: `n` (110) a line feed, `0` (48) a zero byte, `\` and `"` themselves
abbrev pub escaped_turn : ℕ → Turn
escaped_turn b =
    if b == 110 then Puts 10
    else if b == 48 then Puts 0
    else if b == 92 then Puts 92
    else if b == 34 then Puts 34
    else Fails

-- what any other character does: `"` ends the text, `\` (92) escapes the next one, and a printable one stands for itself
abbrev pub plain_turn : ℕ → Turn
plain_turn b = if b == 34 then Ends else if b == 92 then Escapes else if nat_le 32 b && nat_le b 126 then Puts b else Fails

-- what a character does, behind a `\` or not
unfoldable pub turn_of : Bool → ℕ → Turn
turn_of true b = escaped_turn b
turn_of false b = plain_turn b

-- a text after what its character does, where these are the rest of the line, and what it gives behind a `\` and elsewhere
abbrev pub after_turn : Turn → List ℕ → Option (List ℕ × List ℕ) → Option (List ℕ × List ℕ) → Option (List ℕ × List ℕ)
after_turn Ends rest escaped plain = Some ([], rest)
after_turn Escapes rest escaped plain = escaped
after_turn (Puts b) rest escaped plain = onto_read b plain
after_turn Fails rest escaped plain = None

-- the bytes of a text and what stands behind the `"` that ends it, from behind a `\` or from elsewhere on
unfoldable pub text_from : Bool → List ℕ → Option (List ℕ × List ℕ)
text_from escaped [] = None
text_from escaped (b ∷ more) = after_turn (turn_of escaped b) more (text_from true more) (text_from false more)

-- what a line ends with: its tokens, or a text, or a text and more tokens
pub data EndingValue : Type 0 where
  Tokens : EndingValue
  Text : (bytes : List ℕ) → EndingValue
  More : EndingValue

-- a text, by the tokens behind it
abbrev pub ended_by : List ℕ → Option (List TokenValue) → Option EndingValue
ended_by bytes None = None
ended_by bytes (Some []) = Some (Text bytes)
ended_by bytes (Some (token ∷ tokens)) = Some More

abbrev pub ended : Option (List ℕ × List ℕ) → Option EndingValue
ended None = None
ended (Some read) = ended_by read.0 (tokens_of (without_comment read.1))

-- what a line ends with, from behind its first `"` on; none where that isn't a text, or no tokens stand behind it
unfoldable pub ending_of : List ℕ → Option EndingValue
ending_of line = ended (text_from false line)

-- tokens and an ending, where there are both
abbrev pub both : Option (List TokenValue) → Option EndingValue → Option (List TokenValue × EndingValue)
both tokens None = None
both None (Some ending) = None
both (Some tokens) (Some ending) = Some (tokens, ending)

abbrev pub read_by : Option (List ℕ × List ℕ) → List ℕ → Option (List TokenValue × EndingValue)
read_by None line = both (tokens_of (without_comment line)) (Some Tokens)
read_by (Some at) line = both (tokens_of at.0) (ending_of at.1)

-- the tokens of a line before its text, and what it ends with; none where it isn't a list of tokens
unfoldable pub line_read : List ℕ → Option (List TokenValue × EndingValue)
line_read line = read_by (quoted_at line) line
