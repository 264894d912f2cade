use Rattle.std.proofs.Common.{arith}
use Rattle.std.proofs.lemmas.Grind.{common_steps}
use Rattle.tz_asm.proofs.code.index.next_row.Goals as goal

-- The first call that the prover tries finds nothing at these goals, after long: the one that does is named.
pub returns-clause-row : goal.returns-clause-row
returns-clause-row c = grind (arith, common_steps)

pub returns-clause-shorter : goal.returns-clause-shorter
returns-clause-shorter c = grind (arith, common_steps)
