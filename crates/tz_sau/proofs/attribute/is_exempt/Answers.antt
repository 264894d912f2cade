use Rattle.std.proofs.Common.{arith, rules, tests}
use Rattle.std.proofs.lemmas.Grind.{common_steps, elements}
use Rattle.tz_sau.proofs.attribute.is_exempt.Goals as goal

-- What the tactics try, by name: a body that is refused is then told without a search for what to offer.
pub returns-then-within-4 : goal.returns-then-within-4
returns-then-within-4 c = first_of (assumption, search (tests, rules), grind (arith, common_steps), grind (arith, elements))

pub returns-else-within-4 : goal.returns-else-within-4
returns-else-within-4 c = first_of (assumption, search (tests, rules), grind (arith, common_steps), grind (arith, elements))

pub returns-else-addr-ge-PRIVATE_FIRST : goal.returns-else-addr-ge-PRIVATE_FIRST
returns-else-addr-ge-PRIVATE_FIRST c = first_of (assumption, search (tests, rules), grind (arith, common_steps), grind (arith, elements))
