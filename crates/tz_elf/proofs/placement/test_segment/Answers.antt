use Rattle.std.proofs.Common.{arith, rules, tests}
use Rattle.std.proofs.lemmas.Grind.{common_steps, elements}
use Rattle.tz_elf.proofs.placement.test_segment.Goals as goal

-- What the tactics try, by name: a body that is refused is then told without a search for what to offer.
pub returns-then-not-lies_in-clause-ok : goal.returns-then-not-lies_in-clause-ok
returns-then-not-lies_in-clause-ok c = first_of (assumption, search (tests, rules), grind (arith, common_steps), grind (arith, elements))

pub returns-then-not-lies_in-clause-err : goal.returns-then-not-lies_in-clause-err
returns-then-not-lies_in-clause-err c = first_of (assumption, search (tests, rules), grind (arith, common_steps), grind (arith, elements))

pub returns-then-not-lies_in-2-clause-ok : goal.returns-then-not-lies_in-2-clause-ok
returns-then-not-lies_in-2-clause-ok c = first_of (assumption, search (tests, rules), grind (arith, common_steps), grind (arith, elements))

pub returns-then-not-lies_in-2-clause-err : goal.returns-then-not-lies_in-2-clause-err
returns-then-not-lies_in-2-clause-err c = first_of (assumption, search (tests, rules), grind (arith, common_steps), grind (arith, elements))

pub returns-in-Some-clause-ok : goal.returns-in-Some-clause-ok
returns-in-Some-clause-ok c = first_of (assumption, search (tests, rules), grind (arith, common_steps), grind (arith, elements))

pub returns-in-Some-clause-err : goal.returns-in-Some-clause-err
returns-in-Some-clause-err c = first_of (assumption, search (tests, rules), grind (arith, common_steps), grind (arith, elements))

pub returns-in-None-clause-ok : goal.returns-in-None-clause-ok
returns-in-None-clause-ok c = first_of (assumption, search (tests, rules), grind (arith, common_steps), grind (arith, elements))

pub returns-in-None-clause-err : goal.returns-in-None-clause-err
returns-in-None-clause-err c = first_of (assumption, search (tests, rules), grind (arith, common_steps), grind (arith, elements))
