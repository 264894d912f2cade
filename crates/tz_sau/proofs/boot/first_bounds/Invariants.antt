use Rattle.std.proofs.Common.{◌≡◌, ◌-◌, ◌++◌, length, map, replicate, take}
use Rattle.tz_state.specs.Regions.{no_bounds}
use Rattle.tz_state.specs.UnitRegisters.{bounds_of}
use Rattle.tz_sau.proofs.boot.first_bounds.Given as goal

abbrev pub invariant-loop-region : goal.invariant-loop-region
invariant-loop-region l = l.bounds.items ≡ map bounds_of (take l.region-index l.started)

abbrev pub invariant-loop : goal.invariant-loop
invariant-loop l = l.bounds.items ≡ map bounds_of l.started ++ replicate (l.counter - length l.started) no_bounds
