use Rattle.std.proofs.Common.{◌≡◌, ℕ, ◌<◌, ◌≤◌, []}
use Rattle.tz_board.specs.Scripts.{due_at}
use Rattle.tz_run.specs.Events.{events_of}
use Rattle.tz_run.proofs.Counting.{Tallied}
use Rattle.tz_run.proofs.tally.tally_counted.Given as goal

abbrev pub invariant-loop-step : goal.invariant-loop-step
invariant-loop-step g l = record {
  so_far : Tallied (events_of l.script) l.fn.machine l.machine l.step l.steps l.tally;
  -- no step from this one on has events up to the next that may
  none : (k : ℕ) → l.step ≤ k → k < l.next → due_at k l.script ≡ [];
}
