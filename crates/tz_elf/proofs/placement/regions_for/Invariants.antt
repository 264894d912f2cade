use Rattle.std.proofs.Common.{◌≡◌, ◌++◌, drop}
use Rattle.tz_elf.specs.Placement as placement
use Rattle.tz_elf.proofs.placement.regions_for.Given as goal

abbrev pub invariant-loop-region : goal.invariant-loop-region
invariant-loop-region l =
    l.usable.items ++ placement.regions_for l.side (drop l.region-index l.regions) ≡ placement.regions_for l.side l.regions
