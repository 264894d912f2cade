use Rattle.std.proofs.Common.{◌≡◌, take}
use Rattle.tz_board.proofs.script.Script.of.Given as goal

abbrev pub invariant-loop-step : goal.invariant-loop-step
invariant-loop-step l = l.script ≡ take l.step-index l.events
