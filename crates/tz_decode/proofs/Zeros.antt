-- Two numbers whose sum isn't 0 are not both 0.
use Rattle.std.proofs.Common.{◌≡◌, ◌≢◌, ℕ, ◌+◌, false, arith}
use Rattle.std.specs.Prelude.{◌==◌, ◌&&◌}
use Rattle.std.proofs.lemmas.Bool.Decides.{nat_tests}

pub not_both_zero : (a b : ℕ) → a + b ≢ 0 → (a == 0 && b == 0) ≡ false
not_both_zero a b h = grind (arith, nat_tests)
