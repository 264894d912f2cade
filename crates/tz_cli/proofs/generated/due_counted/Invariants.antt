use Rattle.std.proofs.Common.{◌≡◌}
use Rattle.tz_cli.specs.Summary.{due_before}
use Rattle.tz_cli.proofs.generated.due_counted.Given as goal

abbrev pub invariant-loop-step : goal.invariant-loop-step
invariant-loop-step g l = l.count ≡ due_before l.step l.script
