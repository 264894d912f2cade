use Rattle.std.proofs.Common.{◌-◌}
use Rattle.tz_run.proofs.Drawing.{Drawn}
use Rattle.tz_run.proofs.job.generated_events.Given as goal

abbrev pub invariant-loop-event : goal.invariant-loop-event
invariant-loop-event l = Drawn l.seed l.steps l.events.items l.number l.last (10000 - l._event)
