-- Labels.
use Rattle.std.specs.Prelude.{ℕ, ◌==◌, Bool, if◌then◌else◌, List, ◌∷◌, Option, Some, None, is_some}
use Rattle.std.specs.List.{list_any}
use Rattle.tz_syntax.specs.Spelling.{register_of}
use Rattle.tz_syntax.specs.Tokens.{TokenValue, Word, Mark}

-- a `.` (46) stands in a word
abbrev pub has_dot : List ℕ → Bool
has_dot word = list_any (λ b. b == 46) word

-- a word is the name of a register, in any case of letters
abbrev pub is_register : List ℕ → Bool
is_register word = is_some (register_of word)

-- the tokens behind a `:` (58) that stands first
unfoldable pub behind_colon : List TokenValue → Option (List TokenValue)
behind_colon (Mark mark ∷ more) = if mark == 58 then Some more else None
behind_colon _ = None

-- a name before what follows it
abbrev pub named : List ℕ → Option (List TokenValue) → Option (List ℕ × List TokenValue)
named name None = None
named name (Some more) = Some (name, more)

-- the label that tokens begin with, and the tokens behind its `:`. A word with a `.` is none
unfoldable pub label_at : List TokenValue → Option (List ℕ × List TokenValue)
label_at (Word name ∷ more) = if has_dot name then None else named name (behind_colon more)
label_at _ = None
