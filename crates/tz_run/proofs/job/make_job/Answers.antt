use Rattle.std.proofs.Common.{◌∙◌, sym, subst, List}
use Rattle.tz_board.specs.Scripts.{IsScript, Timed}
use Rattle.tz_run.proofs.Drawing.{generated_script}
use Rattle.tz_run.proofs.job.make_job.Goals as goal

pub of-requires : goal.of-requires
of-requires c =
    subst (λ (ts : List Timed). IsScript ts) (sym (c.deref.ensures.value ∙ c.in_ok-events.ensures)) (generated_script c.args.seed c.args.steps)
