use Rattle.std.proofs.Common.{◌≡◌, drop}
use Rattle.tz_state.specs.Access.{is_writable}
use Rattle.tz_access.proofs.units.is_writable.Given as goal

abbrev pub invariant-loop-region : goal.invariant-loop-region
invariant-loop-region l = is_writable (drop l.region-index l.regions) l.addr ≡ is_writable l.regions l.addr
