-- Names as they are written, in letters of either case, and the numbers that they stand for.
use Rattle.std.specs.Prelude.{ℕ, ◌+◌, ◌==◌, Bool, List, Option, option_map}
use Rattle.std.specs.Char.{to_ascii_lowercase}
use Rattle.std.specs.Cmp.Lexicographic.{pointwise}
use Rattle.std.specs.List.{position_from}
use Rattle.std.specs.Option.{option_or}
use Rattle.tz_syntax.specs.Names.{registers, conditions, shifts, specials, nonsecure_specials}

-- the word is the name, which has small letters, in letters of either case
abbrev pub spells : List ℕ → List ℕ → Bool
spells word name = pointwise (λ b n. to_ascii_lowercase b == n) word name

-- the first of the names that the word is, by its number
abbrev pub place_in : List (List ℕ) → List ℕ → Option ℕ
place_in names word = position_from (spells word) 0 names

unfoldable pub register_of : List ℕ → Option ℕ
register_of word = place_in registers word

unfoldable pub condition_of : List ℕ → Option ℕ
condition_of word = place_in conditions word

-- the shifts that have an amount
unfoldable pub shift_of : List ℕ → Option ℕ
shift_of word = place_in shifts word

-- a special register, or one of Non-secure state from number 0x88 on
unfoldable pub special_of : List ℕ → Option ℕ
special_of word = option_or (place_in specials word) (option_map (λ k. 0x88 + k) (place_in nonsecure_specials word))
