-- Words of decimal digits.
use Rattle.std.proofs.Common.{◌≡◌, ◌&&◌, refl, sym, ℕ, ◌<◌, ◌≤◌, ◌↔◌, length, get_or, Bool, true, false, IsTrue, List, Result, Ok, arith}
use Rattle.std.specs.Prelude.{EachIndex, slice_index}
use Rattle.std.proofs.lemmas.Bool.{and_parts, le-leb, leb-true}
use Rattle.std.proofs.Math.Dec.{leb}
use Rattle.std.specs.Int.{IsInRange}
use Rattle.std.specs.Str.{all_ascii_digits}
use Rattle.std.specs.Str.Parse.{digits_value, ParsesUnsigned}
use Rattle.tz_words.specs.Counts.{is_count}
use Rattle.std.proofs.lemmas.Str.Parse.{IsNumeralModel, numerals_by_value, tells_all_ascii_digits, tells_by_index, parse_gives, digits_value_short}

by_test : IsNumeralModel (λ ds. all_ascii_digits ds ≡ true) (digits_value 10)
by_test = numerals_by_value _ tells_all_ascii_digits

by_index : IsNumeralModel (λ ds. (i : ℕ) → i < length ds → IsInRange 48 57 (get_or ds i 0)) (digits_value 10)
by_index = numerals_by_value _ tells_by_index

-- tests that tell the same
pub same_truth : (a b : Bool) → (a ≡ true → b ≡ true) → (b ≡ true → a ≡ true) → a ≡ b
same_truth true b to from = sym (to refl)
same_truth false true to from = from refl
same_truth false false to from = refl

-- of 1 to 8 bytes, a number where each is a digit
pub is_count-by_index : (word : List ℕ) (b : Bool) → 1 ≤ length word → length word ≤ 8
    → (IsTrue b ↔ EachIndex word (λ k. IsInRange 48 57 (slice_index word k))) → b ≡ is_count word
is_count-by_index word b some few h =
    rw (le-leb 1 (length word) some, le-leb (length word) 8 few)
    (same_truth b (all_ascii_digits word) (λ e. by_test.from word (by_index.to word (h.0 e))) (λ e. h.1 (by_index.from word (by_test.to word e))))

-- what makes a number
count_parts : (word : List ℕ) → is_count word ≡ true → (1 ≤ length word) × (length word ≤ 8) × (all_ascii_digits word ≡ true)
count_parts word h =
    let outer = and_parts (leb 1 (length word) && leb (length word) 8) (all_ascii_digits word) h in
    let inner = and_parts (leb 1 (length word)) (leb (length word) 8) outer.0 in
    (leb-true 1 (length word) inner.0, leb-true (length word) 8 inner.1, outer.1)

-- 8 digits fit 32 bits
pub parse-count : {E : Type 0} (word : List ℕ) (r : Result ℕ E) → ParsesUnsigned 32 10 word r → is_count word ≡ true → r ≡ Ok (digits_value 10 word)
parse-count word r h number =
    let parts = count_parts word number in
    parse_gives by_test 32 word r h parts.2 (omega (arith, parts.0)) (omega (arith, digits_value_short by_test word 8 parts.2 parts.1))
