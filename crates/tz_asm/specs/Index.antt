-- Where the rows of a mnemonic are looked up: the rows are parted by the sum of the letters of their mnemonics.
use Rattle.std.specs.Prelude.{ℕ, ◌+◌, ◌-◌, ◌%◌, nat_le, ◌&&◌, if◌then◌else◌, List, [], ◌∷◌, codes, drop, filter, filter_map, is_some, length, slice_get, take, unwrap_or}
use Rattle.std.specs.Char.{to_ascii_lowercase}
use Rattle.tz_syntax.specs.Rows.{TextRowValue}
use Rattle.tz_syntax.specs.Text.{texts}
use Rattle.tz_asm.specs.Mnemonics.{behind, is_named}

abbrev pub letter_sum : List ℕ → ℕ
letter_sum [] = 0
letter_sum (b ∷ bytes) = to_ascii_lowercase b + letter_sum bytes

-- the part in which the rows of a word are: that of its sum, but one part for all that begin with `it`
abbrev pub part_of : List ℕ → ℕ
part_of word = if is_some (behind (codes "it") word) then 64 else letter_sum word % 64

-- the numbers from one place up to another one, where there are as many
abbrev pub between : List ℕ → ℕ × ℕ → List ℕ
between places ends = if nat_le ends.0 ends.1 && nat_le ends.1 (length places) then take (ends.1 - ends.0) (drop ends.0 places) else []

-- a part by its place; past the end it is empty
abbrev pub part_in : List (List ℕ) → ℕ → List ℕ
part_in parts place = unwrap_or (slice_get parts place) []

-- the rows with these numbers
abbrev pub rows_at : List ℕ → List TextRowValue
rows_at places = filter_map (λ k. slice_get texts k) places

-- those of them that have the mnemonic
abbrev pub named_at : List ℕ → List ℕ → List TextRowValue
named_at word places = filter (is_named word) (rows_at places)
