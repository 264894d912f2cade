use Rattle.std.proofs.Common.{arith, rules, tests}
use Rattle.std.proofs.lemmas.Grind.{common_steps, elements}
use Rattle.tz_asm.proofs.code.rows.all_read.Goals as goal

-- What the tactics try, by name: a body that is refused is then told without a search for what to offer.
pub returns-in-None : goal.returns-in-None
returns-in-None c = first_of (assumption, search (tests, rules), grind (arith, common_steps), grind (arith, elements))

pub returns-then-is_empty : goal.returns-then-is_empty
returns-then-is_empty c = first_of (assumption, search (tests, rules), grind (arith, common_steps), grind (arith, elements))

pub returns-else-is_empty : goal.returns-else-is_empty
returns-else-is_empty c = first_of (assumption, search (tests, rules), grind (arith, common_steps), grind (arith, elements))
