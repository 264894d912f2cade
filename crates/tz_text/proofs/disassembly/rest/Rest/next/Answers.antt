use Rattle.std.proofs.Common.{◌≡◌, ◌∙◌, ◌<◌, ap, arith, length, eqb-true, sym}
use Rattle.std.proofs.lemmas.Bool.{eqb-false}
use Rattle.tz_text.proofs.Listing.{next_below, next_text, size_within, text_end}
use Rattle.std.proofs.lemmas.Grind.{common_steps}
use Rattle.tz_text.proofs.disassembly.rest.Rest.next.Goals as goal

pub returns-then-is_empty-clause-end : goal.returns-then-is_empty-clause-end
returns-then-is_empty-clause-end c =
    let rest = c.fill.new.self in
    let none : length rest.waiting.items ≡ 0 = eqb-true (length rest.waiting.items) 0 (sym c.is_empty.ensures ∙ c.if-is_empty.true) in
    λ _. rw (c.requires.empty) (text_end rest none (c.fill.ensures.full (omega arith)))

pub take-requires-clause-enough : goal.take-requires-clause-enough
take-requires-clause-enough c =
    let rest = c.fill.new.self in
    let test : (length rest.waiting.items ≡ 0) → ⊥ = eqb-false (length rest.waiting.items) 0 (sym c.is_empty.ensures ∙ c.if-is_empty.false) in
    let some : 0 < length rest.waiting.items = omega (arith, test) in
    let long = ap length c.as_slice.ensures.value in
    let upto = size_within rest.at c.as_slice.result.now (omega arith) in
    omega (arith, upto, c.push_front-size.ensures.size)

pub returns-clause-text : goal.returns-clause-text
returns-clause-text c =
    let rest = c.fill.new.self in
    let test : (length rest.waiting.items ≡ 0) → ⊥ = eqb-false (length rest.waiting.items) 0 (sym c.is_empty.ensures ∙ c.if-is_empty.false) in
    let some : 0 < length rest.waiting.items = omega (arith, test) in
    let long = ap length c.as_slice.ensures.value in
    let fits = c.as_slice.ensures.fits in
    next_text c.args.self.now rest c.take.new.self c.push_front-size.new.line.bytes c.as_slice.result.now c.push_front-size.result
    c.as_slice.ensures.value some c.push_front-size.ensures.size c.take.ensures.at c.take.ensures.waiting c.take.ensures.here c.take.ensures.segments
    c.fill.ensures.text (omega arith) c.fill.ensures.full c.push_front-size.ensures.line

pub returns-clause-below : goal.returns-clause-below
returns-clause-below c =
    let rest = c.fill.new.self in
    let test : (length rest.waiting.items ≡ 0) → ⊥ = eqb-false (length rest.waiting.items) 0 (sym c.is_empty.ensures ∙ c.if-is_empty.false) in
    let some : 0 < length rest.waiting.items = omega (arith, test) in
    next_below c.args.self.now rest c.take.new.self c.push_front-size.new.line.bytes c.as_slice.result.now c.push_front-size.result
    c.as_slice.ensures.value some c.push_front-size.ensures.size c.take.ensures.at c.take.ensures.waiting c.take.ensures.here c.take.ensures.segments
    c.fill.ensures.below

-- The first call that the prover tries finds nothing at these goals, after long: the one that does is named.
pub overflow_cast-self : goal.overflow_cast-self
overflow_cast-self c = grind (arith, common_steps)

pub returns-clause-some : goal.returns-clause-some
returns-clause-some c = grind (arith, common_steps)
