use Rattle.std.proofs.Common.{true, false, Err, subst}
use Rattle.tz_model.specs.Outside.{Put}
use Rattle.tz_iso.specs.Runs.{PairValue, difference}
use Rattle.tz_run.specs.Events.{events_of}
use Rattle.tz_cli.specs.PairLine.{pair_line}
use Rattle.tz_cli.proofs.Exits.{failed_alone, gains_nothing, pair_told_put, told_cut}
use Rattle.tz_cli.proofs.pair.pair_started.Goals as goal

pub returns-in-Err-clause-quiet : goal.returns-in-Err-clause-quiet
returns-in-Err-clause-quiet g c = gains_nothing _

pub returns-in-Ok-true-clause-ran : goal.returns-in-Ok-true-clause-ran
returns-in-Ok-true-clause-ran g c =
    pair_told_put _ _ _ (g.O.Sink.space c.pair_run.new.out) (events_of c.args.files.now.script) c.args.words.now.steps c.in-Ok.pair _ c.in-Ok-true.field-0 true _ _
    c.in-Ok.ensures c.in-Ok-true.field-0-test c.in-Ok-true.ensures.agreed c.in-Ok-true.ensures.put

pub returns-in-Ok-false-clause-ran : goal.returns-in-Ok-false-clause-ran
returns-in-Ok-false-clause-ran g c =
    pair_told_put _ _ _ (g.O.Sink.space c.pair_run.new.out) (events_of c.args.files.now.script) c.args.words.now.steps c.in-Ok.pair _ c.in-Ok-false.field-0 false _ _
    c.in-Ok.ensures c.in-Ok-false.field-0-test c.in-Ok-false.ensures.agreed c.in-Ok-false.ensures.put

pub returns-clause-ran : goal.returns-clause-ran
returns-clause-ran g c =
    let error = c.in-Err-pair_run.field-0 in
    told_cut _ _ _ (g.O.Sink.space c.pair_run.new.out) _ _ _ _ error
    (subst (λ (x : PairValue). Put (g.O.Sink.written c.args.out.now) (g.O.Sink.written c.pair_run.new.out) (g.O.Sink.space c.args.out.now) (g.O.Sink.space c.pair_run.new.out)
    (pair_line c.args.words.now.steps (difference (events_of c.args.files.now.script) 0 x.first x.second c.args.words.now.steps)) (Err error)) c.in-Ok.ensures c.in-Err-pair_run.ensures.put)
    (c.in-Err-pair_run.ensures.cause.failed (failed_alone error))
