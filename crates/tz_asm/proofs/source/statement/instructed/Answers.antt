use Rattle.std.proofs.Common.{arith, rules, tests}
use Rattle.std.proofs.lemmas.Grind.{common_steps, elements}
use Rattle.tz_asm.specs.Statements.{instructed}
use Rattle.tz_asm.proofs.source.statement.instructed.Goals as goal

-- What the tactics try, by name: a body that is refused is then told without a search for what to offer.
pub returns-in_default-clause-ok : goal.returns-in_default-clause-ok
unfolding instructed
returns-in_default-clause-ok c = first_of (assumption, search (tests, rules), grind (arith, common_steps), grind (arith, elements))

pub returns-in_default-clause-err : goal.returns-in_default-clause-err
unfolding instructed
returns-in_default-clause-err c = first_of (assumption, search (tests, rules), grind (arith, common_steps), grind (arith, elements))

pub returns-then-has_shape-clause-ok : goal.returns-then-has_shape-clause-ok
unfolding instructed
returns-then-has_shape-clause-ok c = first_of (assumption, search (tests, rules), grind (arith, common_steps), grind (arith, elements))

pub returns-then-has_shape-clause-err : goal.returns-then-has_shape-clause-err
unfolding instructed
returns-then-has_shape-clause-err c = first_of (assumption, search (tests, rules), grind (arith, common_steps), grind (arith, elements))

pub returns-else-has_shape-clause-ok : goal.returns-else-has_shape-clause-ok
unfolding instructed
returns-else-has_shape-clause-ok c = first_of (assumption, search (tests, rules), grind (arith, common_steps), grind (arith, elements))

pub returns-else-has_shape-clause-err : goal.returns-else-has_shape-clause-err
unfolding instructed
returns-else-has_shape-clause-err c = first_of (assumption, search (tests, rules), grind (arith, common_steps), grind (arith, elements))
