use Rattle.std.proofs.Common.{◌∙◌, ap, subst}
use Rattle.tz_model.specs.Outside.{Put}
use Rattle.tz_state.specs.State.{State}
use Rattle.tz_sem.specs.Run.{state_after}
use Rattle.tz_run.specs.Events.{events_of}
use Rattle.tz_show.specs.Page.{page}
use Rattle.tz_cli.proofs.Exits.{gains_nothing, told_put}
use Rattle.tz_cli.proofs.run.page_started.Goals as goal

pub returns-in-Err-clause-quiet : goal.returns-in-Err-clause-quiet
returns-in-Err-clause-quiet g c = gains_nothing _

pub returns-clause-ran : goal.returns-clause-ran
returns-clause-ran g c =
    let end = c.lent-state.ensures ∙ c.make_steps.ensures ∙ ap (λ (s : State). state_after (events_of c.args.files.now.script) 0 s c.args.words.now.steps) c.in-Ok.ensures in
    told_put _ _ _ (g.O.Sink.space c.show.new.out) _ _ _ c.show.result _ c.put_status.ensures
    (subst (λ (s : State). Put (g.O.Sink.written c.args.out.now) (g.O.Sink.written c.show.new.out) (g.O.Sink.space c.args.out.now) (g.O.Sink.space c.show.new.out)
    (page s c.args.words.now.steps c.args.ranges.now) c.show.result) end c.show.ensures.put)
    c.show.ensures.cause
