use Rattle.std.proofs.Common.{◌≤◌}
use Rattle.tz_board.specs.Scripts.{due_at}
use Rattle.tz_run.proofs.FullTold.{SoFar}
use Rattle.tz_run.proofs.full.run_counted.Given as goal

abbrev pub invariant-loop-step : goal.invariant-loop-step
invariant-loop-step g l = record {
  lines : SoFar (λ k. due_at k l.script) (g.O.Sink.written l.fn.out) (g.O.Sink.written l.out) (g.O.Sink.space l.fn.out) (g.O.Sink.space l.out) l.fn.machine l.machine l.step l.steps;
  later : g.O.Sink.faults l.fn.out ≤ g.O.Sink.faults l.out;
}
