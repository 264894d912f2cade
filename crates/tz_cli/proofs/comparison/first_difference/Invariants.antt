use Rattle.std.proofs.Common.{◌≡◌, ℕ, ◌<◌, ◌≤◌, []}
use Rattle.tz_board.specs.Scripts.{due_at}
use Rattle.tz_run.specs.Events.{events_of}
use Rattle.tz_cli.proofs.Differences.{SoFar}
use Rattle.tz_cli.proofs.comparison.first_difference.Given as goal

-- no step from this one on has events up to the next that does
abbrev pub invariant-loop-step : goal.invariant-loop-step
invariant-loop-step g l = record {
  so_far : SoFar (events_of l.script) l.fn.pair l.pair l.step l.steps;
  none : (k : ℕ) → l.step ≤ k → k < l.next → due_at k l.script ≡ [];
}
