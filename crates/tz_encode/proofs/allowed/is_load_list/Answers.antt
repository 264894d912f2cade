use Rattle.std.proofs.Common.{arith, rules, tests}
use Rattle.std.proofs.lemmas.Grind.{common_steps, elements}
use Rattle.tz_encode.proofs.allowed.is_load_list.Goals as goal

-- What the tactics try, by name: a body that is refused is then told without a search for what to offer.
pub returns-then-back-eq1 : goal.returns-then-back-eq1
returns-then-back-eq1 c = first_of (assumption, search (tests, rules), grind (arith, common_steps), grind (arith, elements))

pub returns-else-back-eq1 : goal.returns-else-back-eq1
returns-else-back-eq1 c = first_of (assumption, search (tests, rules), grind (arith, common_steps), grind (arith, elements))

pub returns-else-list-ne0 : goal.returns-else-list-ne0
returns-else-list-ne0 c = first_of (assumption, search (tests, rules), grind (arith, common_steps), grind (arith, elements))
