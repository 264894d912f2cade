use Rattle.std.proofs.Common.{arith, rules, tests}
use Rattle.std.proofs.lemmas.Grind.{common_steps, elements}
use Rattle.tz_decode.proofs.fields.plus_or_minus.Goals as goal

-- What the tactics try, by name: a body that is refused is then told without a search for what to offer.
pub returns-then-plus-eq1 : goal.returns-then-plus-eq1
returns-then-plus-eq1 c = first_of (assumption, search (tests, rules), grind (arith, common_steps), grind (arith, elements))

pub returns-else-plus-eq1 : goal.returns-else-plus-eq1
returns-else-plus-eq1 c = first_of (assumption, search (tests, rules), grind (arith, common_steps), grind (arith, elements))
