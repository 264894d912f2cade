use Rattle.std.proofs.Common.{arith}
use Rattle.std.proofs.lemmas.Grind.{common_steps}
use Rattle.tz_core.proofs.running.Machine.run.Goals as goal

-- The first call that the prover tries finds nothing here, after long: the one that does is named.
pub returns-then-is_misplaced-clause-does : goal.returns-then-is_misplaced-clause-does
returns-then-is_misplaced-clause-does c = grind (arith, common_steps)

pub returns-then-not-ignores_condition-clause-does : goal.returns-then-not-ignores_condition-clause-does
returns-then-not-ignores_condition-clause-does c = grind (arith, common_steps)
