use Rattle.std.proofs.Common.{◌≡◌, drop}
use Rattle.tz_state.specs.Regions.{holding}
use Rattle.tz_mpu.specs.Holders.{holders_of}
use Rattle.tz_mpu.proofs.Holding.{found_after}
use Rattle.tz_mpu.proofs.holders.find_holders.Given as goal

abbrev pub invariant-loop-index : goal.invariant-loop-index
invariant-loop-index l = found_after l.found (holding l.index (drop l.index l.regions) l.addr) ≡ holders_of (holding 0 l.regions l.addr)
