-- A number of 32 bits lists nothing from 32 on.
use Rattle.std.proofs.Common.{◌≡◌, ℕ, ◌/◌, ◌^◌, ◌<◌, ◌≤◌, false, arith}
use Rattle.std.proofs.Math.Pow.{pow_mono}
use Rattle.std.proofs.lemmas.Nat.{pow_pos, div_below}
use Rattle.std.proofs.lemmas.Bool.{ne_eqb}
use Rattle.tz_table.specs.Limits.{is_listed}

pub past_list : (list k : ℕ) → list < 2 ^ 32 → 32 ≤ k → is_listed list k ≡ false
past_list list k f h =
    let p : 2 ^ 32 ≤ 2 ^ k = pow_mono {j = k} h in
    let d : list / 2 ^ k < 1 = div_below list (2 ^ k) 1 (pow_pos k) (omega arith) in
    ne_eqb _ _ (omega arith)
