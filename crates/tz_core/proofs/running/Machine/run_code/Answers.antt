use Rattle.std.proofs.Common.{arith}
use Rattle.std.proofs.lemmas.Grind.{common_steps}
use Rattle.tz_core.proofs.running.Machine.run_code.Goals as goal

-- The first call that the prover tries finds nothing here, after long: the one that does is named.
pub returns-else-is_passed_over-clause-does : goal.returns-else-is_passed_over-clause-does
returns-else-is_passed_over-clause-does c = grind (arith, common_steps)

pub returns-then-is_passed_over-clause-does : goal.returns-then-is_passed_over-clause-does
returns-then-is_passed_over-clause-does c = grind (arith, common_steps)

pub returns-in-Undefined-clause-does : goal.returns-in-Undefined-clause-does
returns-in-Undefined-clause-does c = grind (arith, common_steps)
