use Rattle.tz_run.specs.Events.{events_of}
use Rattle.tz_gates.proofs.Counting.{SoFar}
use Rattle.tz_gates.proofs.tally.count_counted.Given as goal

abbrev pub invariant-loop-step : goal.invariant-loop-step
invariant-loop-step g l = record {
  so_far : SoFar (events_of l.script) l.gates l.fn.machine l.machine l.step l.steps l.hits l.others;
}
