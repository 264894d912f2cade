-- The two digits of each byte, and a write of two.
use Rattle.std.proofs.Common.{◌≡◌, ℕ, zero, suc, ◌+◌, ◌-◌, ◌*◌, ◌/◌, ◌%◌, ◌<◌, ◌≤◌, Bool, true, ◌&&◌, T, eqb, List, [], ◌∷◌, ◌++◌, length, get_or, set, take, inl, inr, arith, eq-zero-or-pos, eqb→eq, append_assoc, length-set}
use Rattle.std.proofs.lemmas.List.{take_more_set}
use lib.Ieee.Fits.{and_l, and_r}
use Rattle.tz_syntax.specs.Digits.{hex_digit}
use Rattle.tz_text.specs.declared.hex.TheConstants.{PAIRS}

-- the digits of bytes below a number
abbrev are_digits : ℕ → Bool
are_digits zero = true
are_digits (suc b) = (eqb (get_or PAIRS (b * 2) 0) (hex_digit (b / 16)) && eqb (get_or PAIRS (b * 2 + 1) 0) (hex_digit (b % 16))) && are_digits b

below : (n b : ℕ) → T (are_digits n) → b < n → (get_or PAIRS (b * 2) 0 ≡ hex_digit (b / 16)) × (get_or PAIRS (b * 2 + 1) 0 ≡ hex_digit (b % 16))
below zero b t h = absurd (omega arith)
below (suc n) b t h =
    elim (eq-zero-or-pos (n - b)) [
      | inl z ↦ let e : b ≡ n = omega arith in let a = and_l _ (are_digits n) t in rw e (eqb→eq _ _ (and_l _ _ a), eqb→eq _ _ (and_r _ _ a))
      | inr g ↦ below n b (and_r _ (are_digits n) t) (omega arith)
    ]

pub PAIRS_at : (b : ℕ) → b < 256 → (get_or PAIRS (b * 2) 0 ≡ hex_digit (b / 16)) × (get_or PAIRS (b * 2 + 1) 0 ≡ hex_digit (b % 16))
PAIRS_at b h = below 256 b tt h

-- two digits behind each other
pub take_two : (cells : List ℕ) (at upper lower : ℕ) → at + 2 ≤ length cells → take (at + 2) (set (set cells at upper) (at + 1) lower) ≡ take at cells ++ (upper ∷ lower ∷ [])
take_two cells at upper lower h =
    let e : at + 2 ≡ at + 1 + 1 = omega arith in
    rw (e, take_more_set (set cells at upper) (at + 1) lower (omega (arith, length-set cells at upper)), take_more_set cells at upper (omega arith), append_assoc)
