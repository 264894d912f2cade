use Rattle.std.proofs.Common.{◌≡◌, ◌∙◌, [], ap, arith, subst, List, ℕ, Ok, Err}
use Rattle.tz_model.specs.Outside.{Put}
use Rattle.tz_text.specs.Runs.{ascending, filled}
use Rattle.tz_text.specs.Text.{dis_text, text_left}
use Rattle.tz_text.specs.Rests.{rest_text}
use Rattle.tz_text.proofs.Listing.{text_all}
use Rattle.tz_text.proofs.Sending.{sent_failed, sent_line, sent_start}
use Rattle.tz_text.proofs.disassembly.disassemble.Goals as goal
use Rattle.std.proofs.Common.{rules, tests}
use Rattle.std.proofs.lemmas.Grind.{common_steps, elements}

pub lines-init : goal.lines-init
lines-init g c =
    let whole : rest_text c.new-rest.result ≡ dis_text c.args.image =
    c.new-rest.ensures.text ∙ ap (text_left 0 []) (c.deref.ensures.value ∙ c.ascending-segments.ensures.order) ∙ text_all (ascending (filled c.args.image.segments)) in
    record {
      sent = sent_start _ _ _ _ whole;
      later = omega arith;
      empty = c.new-line.ensures;
      below = c.new-rest.ensures.below;
    }

pub returns-in-Err-clause-put : goal.returns-in-Err-clause-put
returns-in-Err-clause-put g c =
    let bytes = c.as_bytes.ensures.value ∙ c.as_str.ensures.value in
    sent_failed _ _ _ _ _ _ _ _ _ _ c.in-Err.error c.lines.invariant.sent c.next.ensures.text
    (subst (λ (bs : List ℕ). Put (g.O.Sink.written c.lines.out) (g.O.Sink.written c.put.new.self) (g.O.Sink.space c.lines.out) (g.O.Sink.space c.put.new.self) bs (Err c.in-Err.error)) bytes c.in-Err.ensures.put)

pub lines-preserved : goal.lines-preserved
lines-preserved g c =
    let bytes = c.as_bytes.ensures.value ∙ c.as_str.ensures.value in
    record {
      sent = sent_line _ _ _ _ _ _ _ _ _ _ c.lines.invariant.sent c.next.ensures.text
          (subst (λ (bs : List ℕ). Put (g.O.Sink.written c.lines.out) (g.O.Sink.written c.put.new.self) (g.O.Sink.space c.lines.out) (g.O.Sink.space c.put.new.self) bs (Ok c.in_default.field-0)) bytes c.in_default.ensures.put);
      later = let l = c.in_default.ensures.cause.later in omega (arith, l, c.lines.invariant.later);
      empty = c.clear.ensures;
      below = c.next.ensures.below;
    }

-- What the tactics try, by name: a body that is refused is then told without a search for what to offer.
pub returns-in-Err-clause-cause : goal.returns-in-Err-clause-cause
returns-in-Err-clause-cause g c = first_of (assumption, search (tests, rules), grind (arith, common_steps), grind (arith, elements))

pub returns-clause-put : goal.returns-clause-put
returns-clause-put g c = first_of (assumption, search (tests, rules), grind (arith, common_steps), grind (arith, elements))

pub returns-clause-cause : goal.returns-clause-cause
returns-clause-cause g c = first_of (assumption, search (tests, rules), grind (arith, common_steps), grind (arith, elements))

-- The first call that the prover tries finds nothing here, after long: the one that does is named.
pub lines-smaller : goal.lines-smaller
lines-smaller g c = grind (arith, common_steps)
