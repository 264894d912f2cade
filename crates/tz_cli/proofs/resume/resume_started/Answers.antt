use Rattle.tz_cli.proofs.Exits.{told_put}
use Rattle.tz_cli.proofs.resume.resume_started.Goals as goal

pub returns : goal.returns
returns g c = told_put _ _ _ (g.O.Sink.space c.run_from.new.out) _ _ _ c.run_from.result _ c.put_status.ensures c.run_from.ensures.put c.run_from.ensures.cause
