use Rattle.std.proofs.Common.{List, ℕ, Err, subst}
use Rattle.tz_model.specs.Outside.{Put}
use Rattle.tz_snap.proofs.Passed.{held_failed}
use Rattle.tz_snap.proofs.writing.push_word.Goals as goal

pub returns-in-Err-clause-passes : goal.returns-in-Err-clause-passes
returns-in-Err-clause-passes g c =
    let put = subst (λ (bytes : List ℕ). Put (g.O.Sink.written c.args.out.now) (g.O.Sink.written c.put.new.self) (g.O.Sink.space c.args.out.now) (g.O.Sink.space c.put.new.self) bytes (Err c.in-Err.error)) c.as_slice.ensures.value c.in-Err.ensures.put in
    held_failed _ _ _ _ c.args.held.now.items _ c.args.held.now.items c.in-Err.error put
