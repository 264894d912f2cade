use Rattle.std.proofs.Common.{◌+◌, rules, arith, sym, ◌∙◌, get_or, pos, FitsSigned, w32}
use Rattle.std.proofs.lemmas.Int.{to_z-of_z}
use Rattle.tz_encode.proofs.Going.{going_from, going_stop, going_on, sound_on}
use Rattle.tz_encode.proofs.writing.answer.Goals as goal
use Rattle.std.proofs.Common.{tests}
use Rattle.std.proofs.lemmas.Grind.{common_steps, elements}

pub loop-index-init : goal.loop-index-init
loop-index-init c =
    let f : FitsSigned w32 (get_or c.args.values.now 0 (pos 0)) = search rules in
    let e = simp (to_z-of_z w32 _ f) at c.is_number.ensures in
    let same = rw c.from.ensures at (sym e ∙ c.if-not-is_number.false) in
    record { same = going_from _ _ _ _ c.args.values.now (omega arith) (omega arith) (omega arith) same; sound_rest = c.requires }

pub returns-in_default : goal.returns-in_default
returns-in_default c =
    let f : FitsSigned w32 (get_or c.args.values.now (c.loop-index.index + 1) (pos 0)) = search rules in
    let e = simp (to_z-of_z w32 _ f) at c.in_default.ensures in
    sym (c.loop-index.invariant.same ∙ going_stop c.loop-index.index _ _ _ c.args.slots.now c.args.values.now _ (omega arith) (omega arith) e)

pub loop-index-preserved : goal.loop-index-preserved
loop-index-preserved c =
    let f : FitsSigned w32 (get_or c.args.values.now (c.loop-index.index + 1) (pos 0)) = search rules in
    let e = simp (to_z-of_z w32 _ f) at c.in-Some.ensures in
    record {
      same = c.loop-index.invariant.same ∙ going_on c.loop-index.index _ _ _ _ _ c.args.slots.now c.args.values.now _ (omega arith) (omega arith) e c.put-first_half.ensures c.put-second_half.ensures;
      sound_rest = sound_on c.loop-index.index c.args.slots.now c.loop-index.invariant.sound_rest;
    }

-- What the tactics try, by name: a body that is refused is then told without a search for what to offer.
pub returns-then-not-is_number : goal.returns-then-not-is_number
returns-then-not-is_number c = first_of (assumption, search (tests, rules), grind (arith, common_steps), grind (arith, elements))

pub returns : goal.returns
returns c = first_of (assumption, grind (arith, common_steps))

-- The first call that the prover tries finds nothing here, after long: the one that does is named.
pub put-second_half-requires : goal.put-second_half-requires
put-second_half-requires c = grind (arith, common_steps)

pub put-first_half-requires : goal.put-first_half-requires
put-first_half-requires c = grind (arith, common_steps)

pub number_taken-requires : goal.number_taken-requires
number_taken-requires c = grind (arith, common_steps)
