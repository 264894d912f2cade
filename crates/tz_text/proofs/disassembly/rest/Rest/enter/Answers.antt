use Rattle.std.proofs.Common.{◌≡◌, ◌∙◌, ◌+◌, ap, arith, ◌∷◌, length, eqb-true, sym}
use Rattle.tz_model.specs.Image.{SegmentValue}
use Rattle.tz_text.proofs.Listing.{enter_empty, enter_touching}
use Rattle.tz_text.proofs.disassembly.rest.Rest.enter.Goals.{then-is_empty, else-is_empty+else-self-len}
use Rattle.tz_text.proofs.disassembly.rest.Rest.enter.Goals as goal
use Rattle.std.proofs.Common.{rules, tests}
use Rattle.std.proofs.lemmas.Grind.{common_steps, elements}

pub returns-clause-text : goal.returns-clause-text
returns-clause-text c =
    let old = c.args.self.now in
    let s = c.in-Some.segment.now in
    let is : old.segments.now ≡ s ∷ c.in-Some.behind.now = c.in-Some.ensures.cases.0 in
    let base : c.from-base.result ≡ s.base = c.from-base.ensures ∙ ap (λ (s : SegmentValue). s.base) c.segment.view_is in
    let bytes : c.deref-self.result.now ≡ s.bytes = c.deref-self.ensures.value ∙ ap (λ (s : SegmentValue). s.bytes) c.segment.view_is in
    elim c.if-is_empty.branch [
      | then-is_empty w ↦
          let none : length old.waiting.items ≡ 0 = eqb-true (length old.waiting.items) 0 (sym c.is_empty.ensures ∙ w.if-is_empty.true) in
          rw w.self-is (enter_empty old.at c.from-base.result old.waiting.items old.here.now c.deref-self.result.now s old.segments.now c.in-Some.behind.now none c.requires.here is base bytes)
      | else-is_empty+else-self-len w ↦
          let here = w.if-self-len.false in
          let long = w.len.ensures in
          let touches : old.at + length old.waiting.items ≡ s.base = omega arith in
          rw w.self-is (enter_touching old.at old.waiting.items old.here.now c.deref-self.result.now s old.segments.now c.in-Some.behind.now c.requires.here is touches bytes)
    ]

-- What the tactics try, by name: a body that is refused is then told without a search for what to offer.
pub returns-then-self-len-clause-text : goal.returns-then-self-len-clause-text
returns-then-self-len-clause-text c = first_of (assumption, search (tests, rules), grind (arith, common_steps), grind (arith, elements))

pub returns-then-self-len-clause-below : goal.returns-then-self-len-clause-below
returns-then-self-len-clause-below c = first_of (assumption, search (tests, rules), grind (arith, common_steps), grind (arith, elements))

pub returns-then-self-len-clause-waiting : goal.returns-then-self-len-clause-waiting
returns-then-self-len-clause-waiting c = first_of (assumption, search (tests, rules), grind (arith, common_steps), grind (arith, elements))

pub returns-then-self-len-clause-fewer : goal.returns-then-self-len-clause-fewer
returns-then-self-len-clause-fewer c = first_of (assumption, search (tests, rules), grind (arith, common_steps), grind (arith, elements))

pub returns-then-self-len-clause-end : goal.returns-then-self-len-clause-end
returns-then-self-len-clause-end c = first_of (assumption, search (tests, rules), grind (arith, common_steps), grind (arith, elements))

-- The first call that the prover tries finds nothing here, after long: the one that does is named.
pub returns-clause-below : goal.returns-clause-below
returns-clause-below c = grind (arith, common_steps)
