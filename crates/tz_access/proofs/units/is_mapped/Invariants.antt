use Rattle.std.proofs.Common.{◌≡◌, drop}
use Rattle.tz_state.specs.Access.{is_mapped}
use Rattle.tz_access.proofs.units.is_mapped.Given as goal

abbrev pub invariant-loop-region : goal.invariant-loop-region
invariant-loop-region l = is_mapped (drop l.region-index l.regions) l.addr ≡ is_mapped l.regions l.addr
