use Rattle.std.proofs.Common.{◌∙◌, sym}
use Rattle.tz_asm.proofs.BitLemmas.{scale_halved, turns_end, turns_found, turns_next}
use Rattle.tz_asm.proofs.code.bits.turned.Goals as goal

pub returns-in-Some-clause-bits : goal.returns-in-Some-clause-bits
returns-in-Some-clause-bits c = sym (turns_found c.args.constant c.loop-turn.turn c.in-Some.bits c.loop-turn-test.true c.in-Some.ensures.bits) ∙ c.loop-turn.invariant.bits

pub loop-turn-preserved : goal.loop-turn-preserved
loop-turn-preserved c = record {
  bits = sym (turns_next c.args.constant c.loop-turn.turn c.loop-turn-test.true (sym c.in_default.ensures.bits)) ∙ c.loop-turn.invariant.bits;
  scale = scale_halved c.loop-turn.scale c.loop-turn.turn c.loop-turn-test.true c.loop-turn.invariant.scale;
}

pub returns-clause-bits : goal.returns-clause-bits
returns-clause-bits c = sym (turns_end c.args.constant c.loop-turn.turn c.loop-turn-test.false) ∙ c.loop-turn.invariant.bits
