use Rattle.std.proofs.Common.{◌∙◌, subst, List, ℕ}
use Rattle.tz_model.specs.Outside.{Put}
use Rattle.tz_run.proofs.put_line.Goals as goal

pub returns-clause-put : goal.returns-clause-put
returns-clause-put g c =
    let bytes = c.bytes.ensures ∙ c.make.ensures in
    subst (λ (bs : List ℕ). Put (g.O.Sink.written c.args.out.now) (g.O.Sink.written c.put.new.self) (g.O.Sink.space c.args.out.now) (g.O.Sink.space c.put.new.self) bs c.put.result) bytes c.put.ensures.put
