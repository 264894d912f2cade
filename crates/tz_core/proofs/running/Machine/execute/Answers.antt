use Rattle.std.proofs.Common.{arith}
use Rattle.std.proofs.lemmas.Grind.{common_steps}
use Rattle.tz_core.proofs.running.Machine.execute.Goals as goal

-- The first call that the prover tries finds nothing here, after long: the one that does is named.
pub returns-in-Branch-clause-does : goal.returns-in-Branch-clause-does
returns-in-Branch-clause-does c = grind (arith, common_steps)

pub returns-in-Hint-clause-does : goal.returns-in-Hint-clause-does
returns-in-Hint-clause-does c = grind (arith, common_steps)

pub returns-in-DataImm-clause-does : goal.returns-in-DataImm-clause-does
returns-in-DataImm-clause-does c = grind (arith, common_steps)
