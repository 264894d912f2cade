use Rattle.std.proofs.Common.{◌++◌, ◌∙◌, ◌*◌, ap, subst, List, ℕ}
use Rattle.tz_model.specs.Outside.{Put}
use Rattle.tz_show.specs.Dump.{bytes_line, dump_line}
use Rattle.tz_show.proofs.memory.put_line.Goals as goal

pub returns-clause-put : goal.returns-clause-put
unfolding dump_line bytes_line
returns-clause-put g c =
    let line = bytes_line c.args.bus.now.state c.args.range.now (16 * c.args.k) in
    let bytes = c.as_bytes.ensures.value ∙ (c.as_str.ensures.value ∙ (c.push_line.ensures.bytes ∙ ap (λ (x : List ℕ). x ++ line) c.clear.ensures)) in
    subst (λ (bs : List ℕ). Put (g.O.Sink.written c.args.out.now) (g.O.Sink.written c.put.new.self) (g.O.Sink.space c.args.out.now) (g.O.Sink.space c.put.new.self) bs c.put.result) bytes c.put.ensures.put
