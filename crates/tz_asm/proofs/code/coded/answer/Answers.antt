use Rattle.std.proofs.Common.{arith, rules, tests}
use Rattle.std.proofs.lemmas.Grind.{common_steps, elements}
use Rattle.tz_asm.proofs.code.coded.answer.Goals as goal

-- What the tactics try, by name: a body that is refused is then told without a search for what to offer.
pub returns-then-is_none : goal.returns-then-is_none
returns-then-is_none c = first_of (assumption, search (tests, rules), grind (arith, common_steps), grind (arith, elements))

pub returns-then-not-reading : goal.returns-then-not-reading
returns-then-not-reading c = first_of (assumption, search (tests, rules), grind (arith, common_steps), grind (arith, elements))

pub returns-in-None : goal.returns-in-None
returns-in-None c = first_of (assumption, search (tests, rules), grind (arith, common_steps), grind (arith, elements))

pub returns-in-None-code_of_values : goal.returns-in-None-code_of_values
returns-in-None-code_of_values c = first_of (assumption, search (tests, rules), grind (arith, common_steps), grind (arith, elements))

pub returns-in-Some-code_of_values : goal.returns-in-Some-code_of_values
returns-in-Some-code_of_values c = first_of (assumption, search (tests, rules), grind (arith, common_steps), grind (arith, elements))
