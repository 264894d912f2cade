use Rattle.std.proofs.Common.{arith}
use Rattle.std.proofs.lemmas.Grind.{common_steps}
use Rattle.tz_syntax.proofs.pieces.push_expanded.Goals as goal

-- The first call that the prover tries finds nothing at these goals, after long: the one that does is named.
pub returns-in-Some-clause-bytes : goal.returns-in-Some-clause-bytes
returns-in-Some-clause-bytes g c = grind (arith, common_steps)

pub returns-in-Some-clause-len : goal.returns-in-Some-clause-len
returns-in-Some-clause-len g c = grind (arith, common_steps)

pub returns-else-number-lt4096-clause-bytes : goal.returns-else-number-lt4096-clause-bytes
returns-else-number-lt4096-clause-bytes g c = grind (arith, common_steps)

pub returns-else-number-lt4096-clause-len : goal.returns-else-number-lt4096-clause-len
returns-else-number-lt4096-clause-len g c = grind (arith, common_steps)
