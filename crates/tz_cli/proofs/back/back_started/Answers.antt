use Rattle.std.proofs.Common.{◌-◌, ◌∙◌, ap, subst}
use Rattle.tz_model.specs.Outside.{Put}
use Rattle.tz_state.specs.State.{State}
use Rattle.tz_sem.specs.Run.{state_after}
use Rattle.tz_twin.specs.Trace.{text_from}
use Rattle.tz_run.specs.Events.{events_of}
use Rattle.tz_cli.proofs.Exits.{told_put}
use Rattle.tz_cli.proofs.back.back_started.Goals as goal

pub returns-clause-ran : goal.returns-clause-ran
returns-clause-ran g c =
    let words = c.args.words.now in
    let events = events_of c.args.files.now.script in
    let n = words.start.steps - words.back in
    let before = c.in_ok-before.ensures ∙ ap (λ (s : State). state_after events 0 s n) c.in_ok-machine.ensures in
    told_put _ _ _ (g.O.Sink.space c.run_from.new.out) _ _ _ c.run_from.result _ c.put_status.ensures
    (subst (λ (s : State). Put (g.O.Sink.written c.args.out.now) (g.O.Sink.written c.run_from.new.out) (g.O.Sink.space c.args.out.now) (g.O.Sink.space c.run_from.new.out)
    (text_from words.view events n s words.back) c.run_from.result) before c.run_from.ensures.put)
    c.run_from.ensures.cause
