use Rattle.std.proofs.Common.{arith}
use Rattle.std.proofs.lemmas.Grind.{common_steps}
use Rattle.tz_asm.proofs.code.mnemonics.are_letters.Goals as goal

-- The first call that the prover tries finds nothing at these goals, after long: the one that does is named.
pub returns-then-not-is_letter : goal.returns-then-not-is_letter
returns-then-not-is_letter c = grind (arith, common_steps)

pub loop-byte-preserved : goal.loop-byte-preserved
loop-byte-preserved c = grind (arith, common_steps)

pub returns : goal.returns
returns c = grind (arith, common_steps)
