use Rattle.std.proofs.Common.{◌≡◌, ℕ, ◌<◌, ◌≤◌, []}
use Rattle.tz_board.specs.Scripts.{due_at}
use Rattle.tz_run.specs.Events.{events_of}
use Rattle.tz_run.proofs.Known.{TypedSoFar}
use Rattle.tz_run.proofs.Lines.{SoFar}
use Rattle.tz_run.proofs.run_counted.Given as goal

abbrev pub invariant-loop-step : goal.invariant-loop-step
invariant-loop-step g l = record {
  lines : SoFar l.view (events_of l.script) (g.O.Sink.written l.fn.out) (g.O.Sink.written l.out) (g.O.Sink.space l.fn.out) (g.O.Sink.space l.out) l.fn.machine l.machine l.first l.step l.steps;
  typed : TypedSoFar (events_of l.script) l.fn.machine l.machine l.first l.step;
  later : g.O.Sink.faults l.fn.out ≤ g.O.Sink.faults l.out;
  -- no step from this one on has events up to the next that may
  none : (k : ℕ) → l.step ≤ k → k < l.next → due_at k l.script ≡ [];
}
