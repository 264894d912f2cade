use Rattle.std.proofs.Common.{ℕ, ◌<◌, ◌≤◌, ◌+◌, ◌-◌, ◌^◌, length, get_or}
use Rattle.tz_board.specs.Script.{steps_of}
use Rattle.tz_board.proofs.script.count_up_to.Given as goal

abbrev pub invariant-loop-low : goal.invariant-loop-low
invariant-loop-low g l = record {
  ordered : l.low ≤ l.high;
  within : l.high ≤ length l.moments;
  below : (k : ℕ) → k < l.low → get_or (steps_of l.moments) k 0 ≤ l.step;
  above : (k : ℕ) → l.high ≤ k → k < length l.moments → l.step < get_or (steps_of l.moments) k 0;
  few : l.high - l.low < 2 ^ (l.initial.steps + 14 - l.steps);
  counted : l.initial.steps ≤ l.steps;
  not_many : l.steps ≤ l.initial.steps + 14;
}

abbrev pub decreases-loop-low : goal.decreases-loop-low
decreases-loop-low g l = l.high - l.low
