use Rattle.std.proofs.Common.{arith}
use Rattle.std.proofs.lemmas.Grind.{common_steps}
use Rattle.tz_state.specs.Priority.{subpriority_of}
use Rattle.tz_nvic.proofs.exceptions.Exceptions.subpriority_of.Goals as goal

-- The first call that the prover tries finds nothing here, after long: the one that does is named.
pub returns-else-number-eq-HARD_FAULT-clause-is : goal.returns-else-number-eq-HARD_FAULT-clause-is
unfolding subpriority_of
returns-else-number-eq-HARD_FAULT-clause-is c = grind (arith, common_steps)
