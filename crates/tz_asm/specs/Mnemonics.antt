-- The mnemonics, and the rows of texts that each has.
use Rattle.std.specs.Prelude.{ℕ, ◌==◌, nat_le, Bool, false, ◌&&◌, ◌||◌, if◌then◌else◌, List, [], ◌∷◌, length, filter, Option, Some, None}
use Rattle.std.specs.Char.{to_ascii_lowercase}
use Rattle.std.specs.List.{list_all}
use Rattle.tz_table.specs.declared.units.Width.{Width}
use Rattle.tz_syntax.specs.Rows.{TextRowValue}
use Rattle.tz_syntax.specs.Text.{texts}
use Rattle.tz_syntax.specs.declared.row.Piece.{Piece}
use Rattle.tz_syntax.specs.declared.row.Piece.TheVariants as pieces

-- what stands behind a name, which has small letters, in a word that begins with it in letters of either case
abbrev pub behind : List ℕ → List ℕ → Option (List ℕ)
behind [] word = Some word
behind (n ∷ name) [] = None
behind (n ∷ name) (b ∷ word) = if to_ascii_lowercase b == n then behind name word else None

-- `t` (116) or `e` (101)
abbrev pub is_letter : ℕ → Bool
is_letter b = to_ascii_lowercase b == 116 || to_ascii_lowercase b == 101

-- what may stand behind `it`
abbrev pub are_letters : List ℕ → Bool
are_letters bytes = nat_le (length bytes) 3 && list_all is_letter bytes

-- the places of the condition and the mask whose letters end the mnemonic, where a text has such letters
abbrev pub letters_of : Piece → Option (ℕ × ℕ)
letters_of (pieces.Letters i j) = Some (i, j)
letters_of _ = None

abbrev pub lettered : List Piece → Option (ℕ × ℕ)
lettered [] = None
lettered (p ∷ ps) = letters_of p

-- what may stand behind the mnemonic of a row: letters, or nothing
abbrev pub may_end : Option (ℕ × ℕ) → List ℕ → Bool
may_end None bytes = length bytes == 0
may_end (Some places) bytes = are_letters bytes

abbrev pub ends_well : Option (ℕ × ℕ) → Option (List ℕ) → Bool
ends_well places None = false
ends_well places (Some bytes) = may_end places bytes

-- the word is the mnemonic of the row
abbrev pub is_named : List ℕ → TextRowValue → Bool
is_named word row = ends_well (lettered row.pieces) (behind row.mnemonic word)

-- all rows of a mnemonic, in their order
unfoldable pub texts_of : List ℕ → List TextRowValue
texts_of word = filter (is_named word) texts

-- the width of the first of some rows
abbrev pub first_width : List TextRowValue → Option Width
first_width [] = None
first_width (row ∷ rows) = Some row.width

-- the width that a mnemonic fixes; none where the word is no mnemonic
unfoldable pub width_of_word : List ℕ → Option Width
width_of_word word = first_width (texts_of word)
