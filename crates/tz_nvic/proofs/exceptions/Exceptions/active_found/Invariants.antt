use Rattle.std.proofs.Common.{◌≡◌, ◌≤◌}
use Rattle.tz_state.specs.Execution.{active_below}
use Rattle.tz_nvic.specs.ActiveSlots.{active_slots_below}
use Rattle.tz_nvic.proofs.exceptions.Exceptions.active_found.Given as goal

abbrev pub invariant-loop-index : goal.invariant-loop-index
invariant-loop-index l = record {
  least : l.found.least ≡ active_below l.self l.index;
  slots : l.found.slots ≡ active_slots_below l.self l.index;
  few : l.found.least ≤ 260;
}
