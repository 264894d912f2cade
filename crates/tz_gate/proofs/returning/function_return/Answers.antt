use Rattle.std.proofs.Common.{arith}
use Rattle.std.proofs.lemmas.Grind.{common_steps}
use Rattle.tz_gate.proofs.returning.function_return.Goals as goal

-- The first call that the prover tries finds nothing here, after long: the one that does is named.
pub returns-in_err-back-clause-returned : goal.returns-in_err-back-clause-returned
returns-in_err-back-clause-returned g c = grind (arith, common_steps)

pub returns-in_err-second-clause-returned : goal.returns-in_err-second-clause-returned
returns-in_err-second-clause-returned g c = grind (arith, common_steps)

pub overflow_cast-number : goal.overflow_cast-number
overflow_cast-number g c = grind (arith, common_steps)

pub returns-then-not-numbers_agree-clause-returned : goal.returns-then-not-numbers_agree-clause-returned
returns-then-not-numbers_agree-clause-returned g c = grind (arith, common_steps)

pub returns-clause-returned : goal.returns-clause-returned
returns-clause-returned g c = grind (arith, common_steps)
