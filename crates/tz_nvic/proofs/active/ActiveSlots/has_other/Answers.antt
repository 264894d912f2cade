use Rattle.std.proofs.Common.{arith, rules, tests}
use Rattle.std.proofs.lemmas.Grind.{common_steps, elements}
use Rattle.tz_nvic.proofs.active.ActiveSlots.has_other.Goals as goal

-- What the tactics try, by name: a body that is refused is then told without a search for what to offer.
pub returns-in-Nothing : goal.returns-in-Nothing
returns-in-Nothing c = first_of (assumption, search (tests, rules), grind (arith, common_steps), grind (arith, elements))

pub returns-in-One : goal.returns-in-One
returns-in-One c = first_of (assumption, search (tests, rules), grind (arith, common_steps), grind (arith, elements))

pub returns-in-Several : goal.returns-in-Several
returns-in-Several c = first_of (assumption, search (tests, rules), grind (arith, common_steps), grind (arith, elements))
