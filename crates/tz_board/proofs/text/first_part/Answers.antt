use Rattle.std.proofs.Common.{◌∙◌, ◌<◌, ap, arith, length, sym}
use Rattle.std.proofs.lemmas.Bool.{eqb-false, eqb-true}
use Rattle.tz_board.specs.Scripts.{parts_of}
use Rattle.tz_board.proofs.Pieces.{parts_of-cut, parts_of-last, parts_of-none, parts_of-skip}
use Rattle.tz_board.proofs.text.first_part.Goals as goal

pub returns-then-not-is_empty : goal.returns-then-not-is_empty
returns-then-not-is_empty c =
    let some : 0 < length c.in-Some.part.now = omega (arith, eqb-false (length c.in-Some.part.now) 0 (sym c.if-not-is_empty.ensures)) in
    (c.loop-part.invariant ∙ ap parts_of c.in-Some.ensures.0 ∙ parts_of-cut c.in-Some.part.now c.in-Some.back.now c.in-Some.ensures.1 some, some)

pub loop-part-preserved : goal.loop-part-preserved
loop-part-preserved c =
    c.loop-part.invariant ∙ ap parts_of c.in-Some.ensures.0
    ∙ parts_of-skip c.in-Some.part.now c.in-Some.back.now (eqb-true (length c.in-Some.part.now) 0 (sym c.if-not-is_empty.ensures))

pub returns-then-is_empty : goal.returns-then-is_empty
returns-then-is_empty c =
    c.loop-part.invariant ∙ parts_of-none c.loop-part.rest.now (eqb-true (length c.loop-part.rest.now) 0 (sym c.if-is_empty.ensures))

pub returns-else-is_empty : goal.returns-else-is_empty
returns-else-is_empty c =
    let some : 0 < length c.loop-part.rest.now = omega (arith, eqb-false (length c.loop-part.rest.now) 0 (sym c.if-is_empty.ensures)) in
    (c.loop-part.invariant ∙ parts_of-last c.loop-part.rest.now c.in_default.ensures some, some)
