use Rattle.std.proofs.Common.{◌≡◌, replicate}
use Rattle.tz_state.specs.Regions.{no_bounds}
use Rattle.tz_mpu.proofs.mpu.unset.Given as goal

abbrev pub invariant-loop : goal.invariant-loop
invariant-loop l = l.regions.items ≡ replicate l.counter no_bounds
