use Rattle.std.proofs.Common.{subst}
use Rattle.tz_model.specs.Outside.{Put}
use Rattle.tz_state.specs.State.{State}
use Rattle.tz_run.specs.FullRun.{full_from}
use Rattle.tz_run.specs.Events.{events_of}
use Rattle.tz_cli.proofs.Exits.{gains_nothing, told_put}
use Rattle.tz_cli.proofs.run.full_started.Goals as goal

pub returns-in-Err-clause-quiet : goal.returns-in-Err-clause-quiet
returns-in-Err-clause-quiet g c = gains_nothing _

pub returns-clause-ran : goal.returns-clause-ran
returns-clause-ran g c =
    told_put _ _ _ (g.O.Sink.space c.run_full.new.out) _ _ _ c.run_full.result _ c.put_status.ensures
    (subst (λ (s : State). Put (g.O.Sink.written c.args.out.now) (g.O.Sink.written c.run_full.new.out) (g.O.Sink.space c.args.out.now) (g.O.Sink.space c.run_full.new.out)
    (full_from (events_of c.args.files.now.script) 0 s c.args.words.now.steps) c.run_full.result) c.in-Ok.ensures c.run_full.ensures.put)
    c.run_full.ensures.cause
