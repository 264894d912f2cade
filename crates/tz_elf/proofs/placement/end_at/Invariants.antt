use Rattle.std.proofs.Common.{◌≡◌, drop}
use Rattle.tz_elf.specs.Placement.{in_some}
use Rattle.tz_elf.proofs.placement.end_at.Given as goal

abbrev pub invariant-loop-region : goal.invariant-loop-region
invariant-loop-region l = in_some l.regions l.address ≡ in_some (drop l.region-index l.regions) l.address
