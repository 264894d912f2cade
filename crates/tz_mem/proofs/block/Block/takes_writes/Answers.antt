use Rattle.std.proofs.Common.{arith, rules, tests}
use Rattle.std.proofs.lemmas.Grind.{common_steps, elements}
use Rattle.tz_mem.proofs.block.Block.takes_writes.Goals as goal

-- What the tactics try, by name: a body that is refused is then told without a search for what to offer.
pub returns-in-Rom : goal.returns-in-Rom
returns-in-Rom c = first_of (assumption, search (tests, rules), grind (arith, common_steps), grind (arith, elements))

pub returns-in-Ram : goal.returns-in-Ram
returns-in-Ram c = first_of (assumption, search (tests, rules), grind (arith, common_steps), grind (arith, elements))
