use Rattle.std.proofs.Common.{arith}
use Rattle.std.proofs.lemmas.Grind.{common_steps}
use Rattle.tz_asm.proofs.code.mnemonics.lettered.Goals as goal

-- The first call that the prover tries finds nothing at these goals, after long: the one that does is named.
pub returns-in-Some : goal.returns-in-Some
returns-in-Some c = grind (arith, common_steps)

pub loop-piece-preserved : goal.loop-piece-preserved
loop-piece-preserved c = grind (arith, common_steps)

pub returns : goal.returns
returns c = grind (arith, common_steps)
