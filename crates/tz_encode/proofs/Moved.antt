-- A few bits of a number, moved to a place in a halfword, fit it.
use Rattle.std.proofs.Common.{◌≡◌, ℕ, ◌+◌, ◌*◌, ◌/◌, ◌%◌, ◌^◌, ◌<◌, ◌≤◌, ap, arith}
use Rattle.std.proofs.Math.Pow.{pow_mono}
use Rattle.std.proofs.lemmas.Nat.{pow_pos, shl_below, mod_below}
use Rattle.tz_table.specs.Fields.{bits}

pub moved_fits : (n k w j r : ℕ) → j + w ≤ 16 → r ≡ bits n k w → r * 2 ^ j < 65536
moved_fits n k w j r h e =
    let v : ℕ = n / 2 ^ k in
    let b : v % 2 ^ w * 2 ^ j < 2 ^ (w + j) = shl_below (v % 2 ^ w) w j (mod_below v (2 ^ w) (pow_pos w)) in
    let p : 2 ^ (w + j) ≤ 2 ^ 16 = pow_mono {j = 16} (omega arith) in
    let same : r * 2 ^ j ≡ v % 2 ^ w * 2 ^ j = ap (λ x. x * 2 ^ j) e in
    omega arith
