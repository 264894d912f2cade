use Rattle.std.proofs.Common.{arith, rules, tests}
use Rattle.std.proofs.lemmas.Grind.{common_steps, elements}
use Rattle.tz_bits.proofs.kinds.address_first.Goals as goal

-- What the tactics try, by name: a body that is refused is then told without a search for what to offer.
pub returns-in-Index : goal.returns-in-Index
returns-in-Index c = first_of (assumption, search (tests, rules), grind (arith, common_steps), grind (arith, elements))

pub returns-in-Offset : goal.returns-in-Offset
returns-in-Offset c = first_of (assumption, search (tests, rules), grind (arith, common_steps), grind (arith, elements))

pub returns-in-Post : goal.returns-in-Post
returns-in-Post c = first_of (assumption, search (tests, rules), grind (arith, common_steps), grind (arith, elements))

pub returns-in-Pre : goal.returns-in-Pre
returns-in-Pre c = first_of (assumption, search (tests, rules), grind (arith, common_steps), grind (arith, elements))

pub returns-in-Literal : goal.returns-in-Literal
returns-in-Literal c = first_of (assumption, search (tests, rules), grind (arith, common_steps), grind (arith, elements))
