use Rattle.std.proofs.Common.{◌≡◌, ◌≤◌, ◌-◌}
use Rattle.tz_elf.specs.Placement.{lies_in}
use Rattle.tz_elf.proofs.placement.lies_in.Given as goal

abbrev pub invariant-loop-at : goal.invariant-loop-at
invariant-loop-at l = record {
  from : l.base ≤ l.at;
  same : lies_in l.regions l.base l.count ≡ lies_in l.regions l.at (l.end - l.at);
}

abbrev pub decreases-loop-at : goal.decreases-loop-at
decreases-loop-at l = l.end - l.at
