-- Numbers, digit by digit.
use Rattle.std.proofs.Common.{◌≡◌, ◌<◌, ◌≤◌, ◌+◌, ◌*◌, ℕ, Bool, true, false, refl, arith, if◌then◌else◌, List, [], ◌∷◌, length, drop, get_or, Some, None}
use Rattle.std.proofs.Math.Nat.{mul-le-mul_right}
use Rattle.std.proofs.lemmas.Bool.{le-ltb, lt-ltb}
use Rattle.std.proofs.lemmas.List.{drop_all, drop_more}
use Rattle.std.specs.Char.{digit_value, is_digit}
use Rattle.tz_syntax.specs.Tokens.{digits_from, in_32_bits, number_in}

pub digit_more : (base n : ℕ) (xs : List ℕ) (i : ℕ) → i < length xs → is_digit (get_or xs i 0) base ≡ true
    → digits_from base n (drop i xs) ≡ digits_from base (base * n + digit_value (get_or xs i 0)) (drop (i + 1) xs)
unfolding digits_from
digit_more base n xs i h is = rw (drop_more xs i 0 h, is) refl

pub digit_none : (base n : ℕ) (xs : List ℕ) (i : ℕ) → i < length xs → is_digit (get_or xs i 0) base ≡ false → digits_from base n (drop i xs) ≡ None
unfolding digits_from
digit_none base n xs i h other = rw (drop_more xs i 0 h, other) refl

pub digits_all : (base n : ℕ) (xs : List ℕ) (i : ℕ) → length xs ≤ i → digits_from base n (drop i xs) ≡ Some n
unfolding digits_from
digits_all base n xs i h = rw (drop_all i xs h) refl

-- once a number is too long, no digit makes it short
pub stays_long : (base n : ℕ) (xs : List ℕ) → 1 ≤ base → 4294967296 ≤ n → in_32_bits (digits_from base n xs) ≡ None
unfolding digits_from
stays_long base n [] some long = rw (le-ltb n 4294967296 long) refl
stays_long base n (b ∷ more) some long =
    let grows : n ≤ base * n = grow base n some in
    by_digit (is_digit b base) (stays_long base (base * n + digit_value b) more some (omega arith))
  where
    grow : (base n : ℕ) → 1 ≤ base → n ≤ base * n
    grow base n h = omega (arith, mul-le-mul_right n h)

    by_digit : (is : Bool) → in_32_bits (digits_from base (base * n + digit_value b) more) ≡ None
        → in_32_bits (if is then digits_from base (base * n + digit_value b) more else None) ≡ None
    by_digit true h = h
    by_digit false h = refl

pub number_in-some : (base : ℕ) (xs : List ℕ) → 0 < length xs → number_in base xs ≡ in_32_bits (digits_from base 0 xs)
unfolding number_in
number_in-some base [] h = absurd (omega arith)
number_in-some base (b ∷ more) h = refl

pub number_in-none : (base : ℕ) (xs : List ℕ) → length xs ≡ 0 → number_in base xs ≡ None
unfolding number_in
number_in-none base [] h = refl
number_in-none base (b ∷ more) h = absurd (omega arith)

pub short_enough : (n : ℕ) → n < 4294967296 → in_32_bits (Some n) ≡ Some n
short_enough n h = rw (lt-ltb n 4294967296 h) refl
