use Rattle.tz_run.proofs.make_steps.Goals as goal

pub returns : goal.returns
returns c = c.make_counted.ensures
