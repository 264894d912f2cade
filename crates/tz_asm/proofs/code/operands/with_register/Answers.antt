use Rattle.std.proofs.Common.{arith, rules, tests}
use Rattle.std.proofs.lemmas.Grind.{common_steps, elements}
use Rattle.tz_asm.proofs.code.operands.with_register.Goals as goal

-- What the tactics try, by name: a body that is refused is then told without a search for what to offer.
pub returns-in-None-clause-list : goal.returns-in-None-clause-list
returns-in-None-clause-list c = first_of (assumption, search (tests, rules), grind (arith, common_steps), grind (arith, elements))

pub returns-in-None-clause-below : goal.returns-in-None-clause-below
returns-in-None-clause-below c = first_of (assumption, search (tests, rules), grind (arith, common_steps), grind (arith, elements))

pub returns-then-list-bit-clause-list : goal.returns-then-list-bit-clause-list
returns-then-list-bit-clause-list c = first_of (assumption, search (tests, rules), grind (arith, common_steps), grind (arith, elements))

pub returns-then-list-bit-clause-below : goal.returns-then-list-bit-clause-below
returns-then-list-bit-clause-below c = first_of (assumption, search (tests, rules), grind (arith, common_steps), grind (arith, elements))

pub returns-else-list-bit-clause-list : goal.returns-else-list-bit-clause-list
returns-else-list-bit-clause-list c = first_of (assumption, search (tests, rules), grind (arith, common_steps), grind (arith, elements))

pub returns-else-list-bit-clause-below : goal.returns-else-list-bit-clause-below
returns-else-list-bit-clause-below c = first_of (assumption, search (tests, rules), grind (arith, common_steps), grind (arith, elements))
