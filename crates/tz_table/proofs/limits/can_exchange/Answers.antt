use Rattle.std.proofs.Common.{arith, rules, tests}
use Rattle.std.proofs.lemmas.Grind.{common_steps, elements}
use Rattle.tz_table.proofs.limits.can_exchange.Goals as goal

-- What the tactics try, by name: a body that is refused is then told without a search for what to offer.
pub returns-after-ns-eq1 : goal.returns-after-ns-eq1
returns-after-ns-eq1 c = first_of (assumption, search (tests, rules), grind (arith, common_steps), grind (arith, elements))

pub returns-else-rm-ne15 : goal.returns-else-rm-ne15
returns-else-rm-ne15 c = first_of (assumption, search (tests, rules), grind (arith, common_steps), grind (arith, elements))
