-- A range of memory in a word: `ADDRESS:LENGTH`.
use Rattle.std.specs.Prelude.{ℕ, Bool, ◌+◌, ◌*◌, ◌^◌, ◌==◌, ◌&&◌, nat_le, nat_lt, [], ◌∷◌, length, Option, Some, None, if◌then◌else◌, codes, unwrap_or}
use Rattle.std.specs.List.{list_any, before_first, after_first}
use Rattle.std.specs.Char.{digit_value}
use Rattle.tz_model.specs.Board.{within}
use Rattle.tz_words.specs.declared.ranges.Range.{Range}
use Rattle.tz_words.specs.Parts.{Text, behind}
use Rattle.tz_words.specs.Counts.{count_of}

-- what stands before the first such byte of a word, and what stands behind it, if there is one
abbrev pub cut_at : ℕ → Text → Text × Option Text
cut_at c word = (before_first (λ x. x == c) word, if list_any (λ x. x == c) word then Some (after_first (λ x. x == c) word) else None)

-- the number that hexadecimal digits write behind those of n
abbrev pub hex_behind : ℕ → Text → Option ℕ
hex_behind n [] = Some n
hex_behind n (c ∷ digits) = if nat_lt (digit_value c) 16 then hex_behind (n * 16 + digit_value c) digits else None

-- 1 to 8 of them
abbrev pub hex_of : Text → Option ℕ
hex_of digits = if within 1 8 (length digits) then hex_behind 0 digits else None

-- an address: hexadecimal digits, with `0x` before them or without
abbrev pub address_of : Text → Option ℕ
address_of word = hex_of (unwrap_or (behind (codes "0x") word) word)

-- how many bytes: hexadecimal digits behind `0x`, or decimal digits
abbrev pub length_by : Option Text → Text → Option ℕ
length_by (Some digits) word = hex_of digits
length_by None word = count_of word

abbrev pub length_of : Text → Option ℕ
length_of word = length_by (behind (codes "0x") word) word

-- 1 to 65536 bytes, of which the last has an address of 32 bits
abbrev pub is_range : ℕ → ℕ → Bool
is_range first count = within 1 65536 count && nat_le (first + count) (2 ^ 32)

abbrev pub range_from : Option ℕ → Option ℕ → Option Range
range_from (Some first) (Some count) = if is_range first count then Some (record { first = first; count = count }) else None
range_from _ _ = None

-- an address, and behind the colon (58) how many bytes
abbrev pub range_by : Text → Option Text → Option Range
range_by address None = None
range_by address (Some count) = range_from (address_of address) (length_of count)

abbrev pub range_of : Text → Option Range
range_of word = range_by (cut_at 58 word).0 (cut_at 58 word).1
