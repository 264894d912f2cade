use Rattle.std.proofs.Common.{arith, rules, tests}
use Rattle.std.proofs.lemmas.Grind.{common_steps, elements}
use Rattle.tz_access.proofs.target.examined.Goals as goal

-- What the tactics try, by name: a body that is refused is then told without a search for what to offer.
pub returns-in-NonSecure : goal.returns-in-NonSecure
returns-in-NonSecure c = first_of (assumption, search (tests, rules), grind (arith, common_steps), grind (arith, elements))

pub returns-then-alternate : goal.returns-then-alternate
returns-then-alternate c = first_of (assumption, search (tests, rules), grind (arith, common_steps), grind (arith, elements))

pub returns-else-alternate : goal.returns-else-alternate
returns-else-alternate c = first_of (assumption, search (tests, rules), grind (arith, common_steps), grind (arith, elements))
