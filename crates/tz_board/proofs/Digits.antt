-- Numbers of decimal digits, one digit at a time.
use Rattle.std.proofs.Common.{◌≡◌, ◌∙◌, add-one, ◌<◌, ◌≤◌, ◌+◌, ◌-◌, ◌*◌, ◌^◌, ℕ, zero, suc, ap, arith, true, false, List, length, drop, get_or, Some, None, nat_le}
use Rattle.std.proofs.lemmas.Bool.{and_right, le-leb, lt-leb}
use Rattle.std.proofs.lemmas.List.{drop_all, drop_more}
use Rattle.std.proofs.Math.Nat.{pow-succ'}
use Rattle.std.specs.Char.{is_ascii_digit}
use Rattle.tz_model.specs.Board.{within}
use Rattle.tz_board.specs.Scripts.{digits_from, number_of}

pub number_of-none : (xs : List ℕ) → length xs ≡ 0 → number_of xs ≡ None
unfolding number_of
number_of-none xs h = rw h

pub number_of-long : (xs : List ℕ) → 8 < length xs → number_of xs ≡ None
unfolding number_of
number_of-long xs h = let no : within 1 8 (length xs) ≡ false = and_right (nat_le 1 (length xs)) (nat_le (length xs) 8) (lt-leb (length xs) 8 h) in rw no

pub number_of-digits : (xs : List ℕ) → 0 < length xs → length xs ≤ 8 → number_of xs ≡ digits_from 0 xs
unfolding number_of
number_of-digits xs some few = rw (le-leb 1 (length xs) some, le-leb (length xs) 8 few)

-- one more digit
pub one_digit : (xs : List ℕ) (i n : ℕ) → i < length xs → is_ascii_digit (get_or xs i 0) ≡ true → digits_from n (drop i xs) ≡ digits_from (10 * n + (get_or xs i 0 - 48)) (drop (i + 1) xs)
unfolding digits_from
one_digit xs i n h is = rw (drop_more xs i 0 h, is)

-- a byte that is no digit
pub no_digit : (xs : List ℕ) (i n : ℕ) → i < length xs → is_ascii_digit (get_or xs i 0) ≡ false → digits_from n (drop i xs) ≡ None
unfolding digits_from
no_digit xs i n h is = rw (drop_more xs i 0 h, is)

pub all_digits : (xs : List ℕ) (i n : ℕ) → length xs ≤ i → digits_from n (drop i xs) ≡ Some n
unfolding digits_from
all_digits xs i n h = rw (drop_all i xs h)

pub longer : (n i d : ℕ) → n < 10 ^ i → d ≤ 9 → 10 * n + d < 10 ^ (i + 1)
longer n i d h small = let step : 10 ^ (i + 1) ≡ 10 * 10 ^ i = ap (λ (k : ℕ). 10 ^ k) (add-one i) ∙ pow-succ' 10 i in omega arith

-- eight digits are few
pub fits_eight : (n i d : ℕ) → n < 10 ^ i → i < 8 → d ≤ 9 → 10 * n + d < 2 ^ 32
fits_eight n zero d h lt small = omega arith
fits_eight n (suc zero) d h lt small = omega arith
fits_eight n (suc (suc zero)) d h lt small = omega arith
fits_eight n (suc (suc (suc zero))) d h lt small = omega arith
fits_eight n (suc (suc (suc (suc zero)))) d h lt small = omega arith
fits_eight n (suc (suc (suc (suc (suc zero))))) d h lt small = omega arith
fits_eight n (suc (suc (suc (suc (suc (suc zero)))))) d h lt small = omega arith
fits_eight n (suc (suc (suc (suc (suc (suc (suc zero))))))) d h lt small = omega arith
fits_eight n (suc (suc (suc (suc (suc (suc (suc (suc i)))))))) d h lt small = absurd (omega arith)
