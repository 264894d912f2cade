use Rattle.std.proofs.Common.{arith, rules, tests}
use Rattle.std.proofs.lemmas.Grind.{common_steps, elements}
use Rattle.tz_decode.proofs.fields.indexed.Goals as goal

-- What the tactics try, by name: a body that is refused is then told without a search for what to offer.
pub returns-then-back-ne1 : goal.returns-then-back-ne1
returns-then-back-ne1 c = first_of (assumption, search (tests, rules), grind (arith, common_steps), grind (arith, elements))

pub returns-then-before-eq1 : goal.returns-then-before-eq1
returns-then-before-eq1 c = first_of (assumption, search (tests, rules), grind (arith, common_steps), grind (arith, elements))

pub returns-else-before-eq1 : goal.returns-else-before-eq1
returns-else-before-eq1 c = first_of (assumption, search (tests, rules), grind (arith, common_steps), grind (arith, elements))
