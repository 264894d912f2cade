use Rattle.std.proofs.Common.{arith, rules, tests}
use Rattle.std.proofs.lemmas.Grind.{common_steps, elements}
use Rattle.tz_nvic.proofs.exceptions.Exceptions.pend_event.Goals as goal

-- What the tactics try, by name: a body that is refused is then told without a search for what to offer.
pub returns-then-n-self : goal.returns-then-n-self
returns-then-n-self c = first_of (assumption, search (tests, rules), grind (arith, common_steps), grind (arith, elements))

pub returns-else-n-self : goal.returns-else-n-self
returns-else-n-self c = first_of (assumption, search (tests, rules), grind (arith, common_steps), grind (arith, elements))

pub returns-in-Nmi : goal.returns-in-Nmi
returns-in-Nmi c = first_of (assumption, search (tests, rules), grind (arith, common_steps), grind (arith, elements))
