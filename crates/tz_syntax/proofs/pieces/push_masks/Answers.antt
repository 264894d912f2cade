use Rattle.std.proofs.Common.{arith}
use Rattle.std.proofs.lemmas.Grind.{common_steps}
use Rattle.tz_syntax.proofs.pieces.push_masks.Goals as goal

-- The first call that the prover tries finds nothing at these goals, after long: the one that does is named.
pub returns-then-f-eq1-clause-bytes : goal.returns-then-f-eq1-clause-bytes
returns-then-f-eq1-clause-bytes g c = grind (arith, common_steps)

pub returns-then-f-eq1-clause-len : goal.returns-then-f-eq1-clause-len
returns-then-f-eq1-clause-len g c = grind (arith, common_steps)

pub returns-else-f-eq1-clause-bytes : goal.returns-else-f-eq1-clause-bytes
returns-else-f-eq1-clause-bytes g c = grind (arith, common_steps)

pub returns-else-f-eq1-clause-len : goal.returns-else-f-eq1-clause-len
returns-else-f-eq1-clause-len g c = grind (arith, common_steps)
