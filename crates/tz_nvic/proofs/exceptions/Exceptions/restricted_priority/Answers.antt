use Rattle.std.proofs.Common.{arith, rules, tests}
use Rattle.std.proofs.lemmas.Grind.{common_steps, elements}
use Rattle.tz_nvic.proofs.exceptions.Exceptions.restricted_priority.Goals as goal

-- What the tactics try, by name: a body that is refused is then told without a search for what to offer.
pub returns-in-Secure-clause-is : goal.returns-in-Secure-clause-is
returns-in-Secure-clause-is c = first_of (assumption, search (tests, rules), grind (arith, common_steps), grind (arith, elements))

pub returns-in-Secure-clause-few : goal.returns-in-Secure-clause-few
returns-in-Secure-clause-few c = first_of (assumption, search (tests, rules), grind (arith, common_steps), grind (arith, elements))

pub returns-then-self-clause-is : goal.returns-then-self-clause-is
returns-then-self-clause-is c = first_of (assumption, search (tests, rules), grind (arith, common_steps), grind (arith, elements))

pub returns-then-self-clause-few : goal.returns-then-self-clause-few
returns-then-self-clause-few c = first_of (assumption, search (tests, rules), grind (arith, common_steps), grind (arith, elements))

pub returns-else-self-clause-is : goal.returns-else-self-clause-is
returns-else-self-clause-is c = first_of (assumption, search (tests, rules), grind (arith, common_steps), grind (arith, elements))

pub returns-else-self-clause-few : goal.returns-else-self-clause-few
returns-else-self-clause-few c = first_of (assumption, search (tests, rules), grind (arith, common_steps), grind (arith, elements))
