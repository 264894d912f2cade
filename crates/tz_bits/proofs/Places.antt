-- Shifts by more places than a word has, and rotations.
use Rattle.std.proofs.Common.{◌≡◌, ℕ, ◌+◌, ◌-◌, ◌*◌, ◌/◌, ◌%◌, ◌^◌, ◌<◌, ◌≤◌, false, arith, ◌∙◌, ap, sym}
use Rattle.std.specs.Prelude.{◌==◌}
use Rattle.std.proofs.Math.Pow.{pow_mono}
use Rattle.std.proofs.lemmas.Nat.{pow-add, pow_pos, mod_low, shr_high, shr-shr, shl-shr, div_below, shl_below, shr_split, mod_below, rows}
use Rattle.std.proofs.lemmas.Bool.{ne_eqb}
use Rattle.tz_table.specs.Fields.{bits}
use Rattle.tz_bits.specs.Shifts.{left, left_carry, right, right_carry, rotated}

pub pow_split : (n : ℕ) → 32 ≤ n → 2 ^ n ≡ 2 ^ (n - 32) * 2 ^ 32
pow_split n h = let e : n ≡ (n - 32) + 32 = omega arith in ap (λ k. 2 ^ k) e ∙ pow-add 2 (n - 32) 32

pub mul_split : (v n : ℕ) → 32 ≤ n → v * 2 ^ n ≡ v * 2 ^ (n - 32) * 2 ^ 32 + 0
mul_split v n h = let e : v * 2 ^ n ≡ v * (2 ^ (n - 32) * 2 ^ 32) = ap (λ x. v * x) (pow_split n h) in omega arith

pub left_past : (v n : ℕ) → 32 ≤ n → left v n ≡ 0
left_past v n h = ap (λ x. x % 2 ^ 32) (mul_split v n h) ∙ mod_low (v * 2 ^ (n - 32)) 32 0 (omega arith)

pub right_past : (v n : ℕ) → v < 2 ^ 32 → 32 ≤ n → right v n ≡ 0
right_past v n f h = let p : 2 ^ 32 ≤ 2 ^ n = pow_mono {j = n} h in let d : v / 2 ^ n < 1 = div_below v (2 ^ n) 1 (pow_pos n) (omega arith) in omega arith

pub left_carry_past : (v n : ℕ) → 32 < n → left_carry v n ≡ false
left_carry_past v n h =
    let e : v * 2 ^ n / 2 ^ 32 ≡ v * 2 ^ (n - 32) = ap (λ x. x / 2 ^ 32) (mul_split v n (omega arith)) ∙ shr_high (v * 2 ^ (n - 32)) 32 0 (omega arith) in
    let p : 2 ^ (n - 32) ≡ 2 ^ (n - 33) * 2 ^ 1 = (let q : n - 32 ≡ (n - 33) + 1 = omega arith in ap (λ k. 2 ^ k) q ∙ pow-add 2 (n - 33) 1) in
    let m : v * 2 ^ (n - 32) ≡ v * (2 ^ (n - 33) * 2 ^ 1) = ap (λ x. v * x) p in
    ne_eqb _ _ (omega arith)

pub left_carry_is : (v n : ℕ) → n ≤ 32 → left_carry v n ≡ (bits v (32 - n) 1 == 1)
left_carry_is v n h =
    let p : 2 ^ 32 ≡ 2 ^ n * 2 ^ (32 - n) = (let q : 32 ≡ n + (32 - n) = omega arith in ap (λ k. 2 ^ k) q ∙ pow-add 2 n (32 - n)) in
    let e : v * 2 ^ n / 2 ^ 32 ≡ v / 2 ^ (32 - n) = (let q : 32 ≡ n + (32 - n) = omega arith in ap (λ k. v * 2 ^ n / 2 ^ k) q ∙ sym (shr-shr (v * 2 ^ n) n (32 - n)) ∙ ap (λ x. x / 2 ^ (32 - n)) (shl-shr v n)) in
    ap (λ x. x % 2 == 1) e

pub right_carry_past : (v n : ℕ) → v < 2 ^ 32 → 32 < n → right_carry v n ≡ false
right_carry_past v n f h = let e : v / 2 ^ (n - 1) ≡ 0 = right_past v (n - 1) f (omega arith) in ap (λ x. x % 2 == 1) e

pub high_part : (v p q : ℕ) → v * 2 ^ q % 2 ^ (p + q) ≡ v % 2 ^ p * 2 ^ q
high_part v p q =
    let s : v / 2 ^ p * 2 ^ p + v % 2 ^ p ≡ v = shr_split v p in
    let m : 2 ^ (p + q) ≡ 2 ^ p * 2 ^ q = pow-add 2 p q in
    let e : (v / 2 ^ p * 2 ^ p + v % 2 ^ p) * 2 ^ q ≡ v * 2 ^ q = ap (λ x. x * 2 ^ q) s in
    let t : v / 2 ^ p * 2 ^ (p + q) ≡ v / 2 ^ p * (2 ^ p * 2 ^ q) = ap (λ x. v / 2 ^ p * x) m in
    let w : v * 2 ^ q ≡ v / 2 ^ p * 2 ^ (p + q) + v % 2 ^ p * 2 ^ q = omega arith in
    ap (λ x. x % 2 ^ (p + q)) w ∙ mod_low (v / 2 ^ p) (p + q) (v % 2 ^ p * 2 ^ q) (shl_below (v % 2 ^ p) p q (mod_below v (2 ^ p) (pow_pos p)))

pub rotated_is : (v n : ℕ) → v / 2 ^ (n % 32) + v * 2 ^ (32 - n % 32) % 2 ^ 32 ≡ rotated v n
rotated_is v n =
    let q : n % 32 + (32 - n % 32) ≡ 32 = omega arith in
    ap (λ x. v / 2 ^ (n % 32) + x) (ap (λ k. v * 2 ^ (32 - n % 32) % 2 ^ k) (sym q) ∙ high_part v (n % 32) (32 - n % 32))

row_below : (a b h w t : ℕ) → a < h → b < w → t ≡ h * w → b + a * w < t
row_below a b h w t p q e = grind (arith, rows)

pub rotated_fits : (v n : ℕ) → v < 2 ^ 32 → rotated v n < 2 ^ 32
rotated_fits v n f =
    let q : n % 32 + (32 - n % 32) ≡ 32 = omega arith in
    let m : 2 ^ 32 ≡ 2 ^ (n % 32) * 2 ^ (32 - n % 32) = ap (λ k. 2 ^ k) (sym q) ∙ pow-add 2 (n % 32) (32 - n % 32) in
    let d : v / 2 ^ (n % 32) < 2 ^ (32 - n % 32) = div_below v (2 ^ (n % 32)) (2 ^ (32 - n % 32)) (pow_pos (n % 32)) (omega arith) in
    row_below (v % 2 ^ (n % 32)) (v / 2 ^ (n % 32)) (2 ^ (n % 32)) (2 ^ (32 - n % 32)) (2 ^ 32) (mod_below v (2 ^ (n % 32)) (pow_pos (n % 32))) d m

pub ruleset places = (left_past, right_past, left_carry_past, left_carry_is, right_carry_past, rotated_is, rotated_fits)
