use Rattle.std.proofs.Common.{arith, rules, tests}
use Rattle.std.proofs.lemmas.Grind.{common_steps, elements}
use Rattle.tz_state.specs.Execution.{execution}
use Rattle.tz_prio.proofs.execution.execution.Goals as goal

-- What the tactics try, by name: a body that is refused is then told without a search for what to offer.
pub returns-clause-is : goal.returns-clause-is
unfolding execution
returns-clause-is c = first_of (assumption, search (tests, rules), grind (arith, common_steps), grind (arith, elements))
