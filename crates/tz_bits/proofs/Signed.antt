-- An arithmetic shift of a negative word is the shift of its complement.
use Rattle.std.proofs.Common.{◌≡◌, ℕ, ◌+◌, ◌-◌, ◌*◌, ◌/◌, ◌%◌, ◌^◌, ◌<◌, ◌≤◌, Bool, not, arith, refl, ◌∙◌, ap}
use Rattle.std.proofs.lemmas.Nat.{pow-add, pow_pos, shr_high, shr_split, mod_below, div_below}
use Rattle.std.proofs.lemmas.Bool.{ne_eqb, eq-eqb, cond_above, cond_below}
use Rattle.tz_bits.specs.Words.{is_odd}
use Rattle.tz_bits.specs.Shifts.{right, right_carry, signed_above, signed_right, signed_right_carry}

-- v and c together are all ones below top places of 2 ^ k
pub complement_shift : (top k c v : ℕ) → v + c + 1 ≡ top * 2 ^ k → v / 2 ^ k + c / 2 ^ k + 1 ≡ top
complement_shift top k c v e =
    let s : c / 2 ^ k * 2 ^ k + c % 2 ^ k ≡ c = shr_split c k in
    let r : c % 2 ^ k < 2 ^ k = mod_below c (2 ^ k) (pow_pos k) in
    let below : c / 2 ^ k < top = div_below c (2 ^ k) top (pow_pos k) (omega arith) in
    let rest : (top - 1 - c / 2 ^ k) + c / 2 ^ k + 1 ≡ top = omega arith in
    let m : ((top - 1 - c / 2 ^ k) + c / 2 ^ k + 1) * 2 ^ k ≡ top * 2 ^ k = ap (λ x. x * 2 ^ k) rest in
    let here : v ≡ (top - 1 - c / 2 ^ k) * 2 ^ k + (2 ^ k - 1 - c % 2 ^ k) = omega arith in
    let d : v / 2 ^ k ≡ top - 1 - c / 2 ^ k = ap (λ x. x / 2 ^ k) here ∙ shr_high (top - 1 - c / 2 ^ k) k (2 ^ k - 1 - c % 2 ^ k) (omega arith) in
    omega arith

above_positive : (v n : ℕ) → v < 2147483648 → v ≡ signed_above v n
above_positive v n h = cond_below v (2 ^ 31) v (v + (2 ^ n - 1) * 2 ^ 32) h

above_negative : (v n : ℕ) → 2147483648 ≤ v → v + (2 ^ n - 1) * 2 ^ 32 ≡ signed_above v n
above_negative v n h = cond_above v (2 ^ 31) v (v + (2 ^ n - 1) * 2 ^ 32) (v + (2 ^ n - 1) * 2 ^ 32) h refl

pub shift_positive : (v n r : ℕ) → v < 2147483648 → r ≡ right v n → r ≡ signed_right v n
shift_positive v n r h e = e ∙ ap (λ x. x / 2 ^ n) (above_positive v n h)

pub shift_negative : (v n r : ℕ) → 2147483648 ≤ v → v < 4294967296 → r ≡ right (4294967295 - v) n → 4294967295 - r ≡ signed_right v n
shift_negative v n r h f e =
    let p : 0 < 2 ^ n = pow_pos n in
    let a : (v + (2 ^ n - 1) * 2 ^ 32) / 2 ^ n ≡ signed_right v n = ap (λ x. x / 2 ^ n) (above_negative v n h) in
    let s = complement_shift (2 ^ 32) n (4294967295 - v) (v + (2 ^ n - 1) * 2 ^ 32) (omega arith) in
    omega arith

pub carry_positive : (v n : ℕ) (r : Bool) → v < 2147483648 → r ≡ right_carry v n → r ≡ signed_right_carry v n
carry_positive v n r h e = e ∙ ap (λ x. is_odd (x / 2 ^ (n - 1))) (above_positive v n h)

not_odd : (a b t : ℕ) → a + b + 1 ≡ 2 * t → not (is_odd a) ≡ is_odd b
not_odd a b t e = grind (arith, ne_eqb, eq-eqb)

pub carry_negative : (v n : ℕ) (r : Bool) → 1 ≤ n → 2147483648 ≤ v → v < 4294967296 → r ≡ right_carry (4294967295 - v) n → not r ≡ signed_right_carry v n
carry_negative v n r one h f e =
    let p : 0 < 2 ^ (n - 1) = pow_pos (n - 1) in
    let q : 2 ^ n ≡ 2 ^ (n - 1) * 2 ^ 1 = (let same : n ≡ (n - 1) + 1 = omega arith in ap (λ k. 2 ^ k) same ∙ pow-add 2 (n - 1) 1) in
    let s = complement_shift (2 * 2 ^ 32) (n - 1) (4294967295 - v) (v + (2 ^ n - 1) * 2 ^ 32) (omega arith) in
    ap not e ∙ not_odd ((4294967295 - v) / 2 ^ (n - 1)) ((v + (2 ^ n - 1) * 2 ^ 32) / 2 ^ (n - 1)) (2 ^ 32) (omega arith)
    ∙ ap (λ x. is_odd (x / 2 ^ (n - 1))) (above_negative v n h)

pub ruleset signed_shifts = (shift_positive, shift_negative, carry_positive, carry_negative)
