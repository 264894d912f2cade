use Rattle.std.proofs.Common.{arith}
use Rattle.std.proofs.lemmas.Grind.{common_steps}
use Rattle.tz_syntax.proofs.pieces.push_shift.Goals as goal

-- The first call that the prover tries finds nothing here, after long: the one that does is named.
pub returns-else-kind-eq4-clause-bytes : goal.returns-else-kind-eq4-clause-bytes
returns-else-kind-eq4-clause-bytes g c = grind (arith, common_steps)

pub returns-else-kind-eq4-clause-len : goal.returns-else-kind-eq4-clause-len
returns-else-kind-eq4-clause-len g c = grind (arith, common_steps)
