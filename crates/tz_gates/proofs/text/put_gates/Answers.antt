use Rattle.std.proofs.Common.{◌∙◌, ◌⊎◌, ◌≤◌, arith, subst, length, List, ℕ, Ok, Err}
use Rattle.tz_model.specs.Outside.{Put}
use Rattle.tz_text.proofs.Sending.{sent_failed, sent_line}
use Rattle.tz_gates.proofs.Lines.{last_line, line_more, sent_last}
use Rattle.tz_gates.proofs.text.put_gates.Goals as goal

pub returns-in-Err-clause-put : goal.returns-in-Err-clause-put
returns-in-Err-clause-put g c =
    let bytes = c.as_bytes.ensures.value ∙ c.as_str.ensures.value ∙ c.push_gate.ensures in
    sent_failed _ _ _ _ _ _ _ _ _ _ c.in-Err.error c.loop-index.invariant.sent (line_more c.args.gates.now c.args.hits.now c.args.unlisted c.loop-index.index (omega arith) (omega arith))
    (subst (λ (bs : List ℕ). Put (g.O.Sink.written c.loop-index.out) (g.O.Sink.written c.put.new.self) (g.O.Sink.space c.loop-index.out) (g.O.Sink.space c.put.new.self) bs (Err c.in-Err.error)) bytes c.in-Err.ensures.put)

pub loop-index-preserved : goal.loop-index-preserved
loop-index-preserved g c =
    let bytes = c.as_bytes.ensures.value ∙ c.as_str.ensures.value ∙ c.push_gate.ensures in
    record {
      sent = sent_line _ _ _ _ _ _ _ _ _ _ c.loop-index.invariant.sent (line_more c.args.gates.now c.args.hits.now c.args.unlisted c.loop-index.index (omega arith) (omega arith))
          (subst (λ (bs : List ℕ). Put (g.O.Sink.written c.loop-index.out) (g.O.Sink.written c.put.new.self) (g.O.Sink.space c.loop-index.out) (g.O.Sink.space c.put.new.self) bs (Ok c.in_default.field-0)) bytes c.in_default.ensures.put);
      later = let l = c.in_default.ensures.cause.later in omega (arith, l, c.loop-index.invariant.later);
      empty = c.clear.ensures;
    }

pub returns-clause-put : goal.returns-clause-put
returns-clause-put g c =
    let bytes = c.as_bytes-2.ensures.value ∙ c.as_str-2.ensures.value ∙ c.push_unlisted.ensures in
    let past : (length c.args.gates.now ≤ c.loop-index.index) ⊎ (length c.args.hits.now ≤ c.loop-index.index) = grind arith in
    sent_last _ _ _ _ _ _ _ _ _ c.put-2.result c.loop-index.invariant.sent (last_line c.args.gates.now c.args.hits.now c.args.unlisted c.loop-index.index past)
    (subst (λ (bs : List ℕ). Put (g.O.Sink.written c.loop-index.out) (g.O.Sink.written c.put-2.new.self) (g.O.Sink.space c.loop-index.out) (g.O.Sink.space c.put-2.new.self) bs c.put-2.result) bytes c.put-2.ensures.put)
