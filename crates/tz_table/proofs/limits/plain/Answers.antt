use Rattle.std.proofs.Common.{arith, rules, tests}
use Rattle.std.proofs.lemmas.Grind.{common_steps, elements}
use Rattle.tz_table.proofs.limits.plain.Goals as goal

-- What the tactics try, by name: a body that is refused is then told without a search for what to offer.
pub returns-then-r-ne13 : goal.returns-then-r-ne13
returns-then-r-ne13 c = first_of (assumption, search (tests, rules), grind (arith, common_steps), grind (arith, elements))

pub returns-else-r-ne13 : goal.returns-else-r-ne13
returns-else-r-ne13 c = first_of (assumption, search (tests, rules), grind (arith, common_steps), grind (arith, elements))
