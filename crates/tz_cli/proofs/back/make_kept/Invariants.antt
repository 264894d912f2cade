use Rattle.tz_run.specs.Events.{events_of}
use Rattle.tz_cli.proofs.Histories.{Kept}
use Rattle.tz_cli.proofs.back.make_kept.Given as goal

abbrev pub invariant-loop-made : goal.invariant-loop-made
invariant-loop-made g l = Kept (events_of l.script) l.first l.fn.history.now l.fn.history.kept l.made l.history
