use Rattle.std.proofs.Common.{arith}
use Rattle.std.proofs.lemmas.Grind.{common_steps}
use Rattle.tz_asm.specs.Bits.{mask_from}
use Rattle.tz_asm.proofs.code.bits.mask_of.Goals as goal

-- The first call that the prover tries finds nothing at these goals, after long: the one that does is named.
pub loop-letter-preserved : goal.loop-letter-preserved
unfolding mask_from
loop-letter-preserved c = grind (arith, common_steps)

pub returns-clause-mask : goal.returns-clause-mask
unfolding mask_from
returns-clause-mask c = grind (arith, common_steps)
