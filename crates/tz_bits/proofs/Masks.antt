use Rattle.std.proofs.Common.{◌≡◌, ℕ, ◌+◌, ◌-◌, ◌*◌, ◌/◌, ◌%◌, ◌^◌, ◌<◌, ◌≤◌, bit_and, arith, ◌∙◌, ap}
use Rattle.std.proofs.Math.Pow.{pow_mono}
use Rattle.std.proofs.lemmas.Nat.{and_mask, pow_pos, mod_below, one_shl}
use Rattle.std.proofs.lemmas.Nat.Bits.{ones_shr}
use Rattle.std.proofs.lemmas.Bool.{cond_above, cond_below}
use Rattle.tz_table.specs.Fields.{bits}
use Rattle.tz_bits.specs.Words.{sign_extended}

-- `MAX >> (32 - w)`
pub low_ones : (w : ℕ) → w ≤ 32 → 4294967295 / 2 ^ (32 - w) ≡ 2 ^ w - 1
low_ones w h = let e : 32 - (32 - w) ≡ w = omega arith in ones_shr 32 (32 - w) (omega arith) ∙ ap (λ k. 2 ^ k - 1) e

pub low_mask : (n w : ℕ) → w ≤ 32 → bit_and n (4294967295 / 2 ^ (32 - w)) ≡ n % 2 ^ w
low_mask n w h = ap (bit_and n) (low_ones w h) ∙ and_mask n w

pub high_fits : (n w : ℕ) → w ≤ 32 → n / 2 ^ 0 % 2 ^ w + (4294967295 - 4294967295 / 2 ^ (32 - w)) < 2 ^ 32
high_fits n w h = let p : 2 ^ w ≤ 2 ^ 32 = pow_mono h in omega (arith, low_ones w h, pow_pos w, mod_below (n / 2 ^ 0) (2 ^ w) (pow_pos w))

pub extended_high : (n w low : ℕ) → 1 ≤ w → w ≤ 32 → low ≡ bits n 0 w → 1 * 2 ^ (w - 1) % 4294967296 ≤ low → low + (4294967295 - 4294967295 / 2 ^ (32 - w)) ≡ sign_extended n w
extended_high n w low h1 h2 e h =
    let p : 2 ^ w ≤ 2 ^ 32 = pow_mono h2 in
    let one : n / 2 ^ 0 ≡ n = omega arith in
    let low_is : low ≡ n % 2 ^ w = e ∙ ap (λ x. x % 2 ^ w) one in
    let bit : 1 * 2 ^ (w - 1) % 4294967296 ≡ 2 ^ (w - 1) = one_shl (w - 1) 32 (omega arith) in
    cond_above (n % 2 ^ w) (2 ^ (w - 1)) _ _ _ (omega arith) (omega (arith, low_ones w h2, pow_pos w))

pub extended_low : (n w low : ℕ) → 1 ≤ w → w ≤ 32 → low ≡ bits n 0 w → low < 1 * 2 ^ (w - 1) % 4294967296 → low ≡ sign_extended n w
extended_low n w low h1 h2 e h =
    let one : n / 2 ^ 0 ≡ n = omega arith in
    let low_is : low ≡ n % 2 ^ w = e ∙ ap (λ x. x % 2 ^ w) one in
    let bit : 1 * 2 ^ (w - 1) % 4294967296 ≡ 2 ^ (w - 1) = one_shl (w - 1) 32 (omega arith) in
    low_is ∙ cond_below (n % 2 ^ w) (2 ^ (w - 1)) _ _ (omega arith)

pub ruleset extensions = (high_fits, extended_high, extended_low)
