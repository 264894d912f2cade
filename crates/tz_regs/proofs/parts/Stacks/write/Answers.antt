use Rattle.std.proofs.Common.{arith, rules, tests}
use Rattle.std.proofs.lemmas.Grind.{common_steps, elements}
use Rattle.tz_regs.proofs.parts.Stacks.write.Goals as goal

-- What the tactics try, by name: a body that is refused is then told without a search for what to offer.
pub returns-in-Msp : goal.returns-in-Msp
returns-in-Msp c = first_of (assumption, search (tests, rules), grind (arith, common_steps), grind (arith, elements))

pub returns-in-Psp : goal.returns-in-Psp
returns-in-Psp c = first_of (assumption, search (tests, rules), grind (arith, common_steps), grind (arith, elements))

pub returns-in-Msplim : goal.returns-in-Msplim
returns-in-Msplim c = first_of (assumption, search (tests, rules), grind (arith, common_steps), grind (arith, elements))

pub returns-in-Psplim : goal.returns-in-Psplim
returns-in-Psplim c = first_of (assumption, search (tests, rules), grind (arith, common_steps), grind (arith, elements))

pub returns-in-Control : goal.returns-in-Control
returns-in-Control c = first_of (assumption, search (tests, rules), grind (arith, common_steps), grind (arith, elements))

pub returns-in-Sp : goal.returns-in-Sp
returns-in-Sp c = first_of (assumption, search (tests, rules), grind (arith, common_steps), grind (arith, elements))

pub returns-in_default : goal.returns-in_default
returns-in_default c = first_of (assumption, search (tests, rules), grind (arith, common_steps), grind (arith, elements))
