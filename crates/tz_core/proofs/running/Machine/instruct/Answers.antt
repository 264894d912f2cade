use Rattle.std.proofs.Common.{arith}
use Rattle.std.proofs.lemmas.Grind.{common_steps}
use Rattle.tz_core.proofs.running.Machine.instruct.Goals as goal

-- The first call that the prover tries finds nothing here, after long: the one that does is named.
pub returns-in-Err-clause-does : goal.returns-in-Err-clause-does
returns-in-Err-clause-does c = grind (arith, common_steps)

pub returns-then-not-self-clause-does : goal.returns-then-not-self-clause-does
returns-then-not-self-clause-does c = grind (arith, common_steps)

pub returns-then-fetched-clause-does : goal.returns-then-fetched-clause-does
returns-then-fetched-clause-does c = grind (arith, common_steps)
