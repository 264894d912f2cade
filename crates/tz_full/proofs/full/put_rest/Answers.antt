use Rattle.std.proofs.Common.{◌++◌, ◌∙◌, ap, subst, List, ℕ}
use Rattle.tz_model.specs.Outside.{Put}
use Rattle.tz_full.specs.Full.{rest_text}
use Rattle.tz_full.proofs.full.put_rest.Goals as goal

pub returns-clause-put : goal.returns-clause-put
returns-clause-put g c =
    let bytes = c.push_rest.ensures.bytes ∙ ap (λ (x : List ℕ). x ++ rest_text c.args.account.now c.args.report.now c.args.state.now) c.clear.ensures in
    subst (λ (bs : List ℕ). Put (g.O.Sink.written c.args.out.now) (g.O.Sink.written c.put_some.new.out) (g.O.Sink.space c.args.out.now) (g.O.Sink.space c.put_some.new.out) bs c.put_some.result) bytes c.put_some.ensures.put
