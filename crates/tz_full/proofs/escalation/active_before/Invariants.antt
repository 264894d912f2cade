use Rattle.std.proofs.Common.{◌≡◌, ◌≤◌}
use Rattle.tz_full.specs.Escalation.{active_before}
use Rattle.tz_full.proofs.escalation.active_before.Given as goal

abbrev pub invariant-loop-index : goal.invariant-loop-index
invariant-loop-index l = record {
  least : l.least ≡ active_before l.exceptions l.taken l.index;
  few : l.least ≤ 260;
}
