use Rattle.std.proofs.Common.{◌≡◌, drop}
use Rattle.tz_state.specs.Due.{due}
use Rattle.tz_nvic.proofs.exceptions.Exceptions.pend_due.Given as goal

abbrev pub invariant-loop-event : goal.invariant-loop-event
invariant-loop-event l = due l.self (drop l.event-index l.due) ≡ due l.fn.self l.due
