use Rattle.std.proofs.Common.{arith}
use Rattle.std.proofs.lemmas.Grind.{common_steps}
use Rattle.tz_bits.proofs.sums.signed_sum.Goals as goal

-- The first call that the prover tries finds nothing here, after long: the one that does is named.
pub overflow_add-result : goal.overflow_add-result
overflow_add-result c = grind (arith, common_steps)

pub returns-else-carry : goal.returns-else-carry
returns-else-carry c = grind (arith, common_steps)

pub returns-then-carry : goal.returns-then-carry
returns-then-carry c = grind (arith, common_steps)
