use Rattle.std.proofs.Common.{arith, rules, tests}
use Rattle.std.proofs.lemmas.Grind.{common_steps, elements}
use Rattle.tz_asm.specs.SourceLines.{labelled}
use Rattle.tz_asm.proofs.source.source_line.labelled.Goals as goal

-- What the tactics try, by name: a body that is refused is then told without a search for what to offer.
pub returns-in-Err-clause-ok : goal.returns-in-Err-clause-ok
unfolding labelled
returns-in-Err-clause-ok c = first_of (assumption, search (tests, rules), grind (arith, common_steps), grind (arith, elements))

pub returns-in-Err-clause-err : goal.returns-in-Err-clause-err
unfolding labelled
returns-in-Err-clause-err c = first_of (assumption, search (tests, rules), grind (arith, common_steps), grind (arith, elements))

pub returns-then-is_some-clause-ok : goal.returns-then-is_some-clause-ok
unfolding labelled
returns-then-is_some-clause-ok c = first_of (assumption, search (tests, rules), grind (arith, common_steps), grind (arith, elements))

pub returns-then-is_some-clause-err : goal.returns-then-is_some-clause-err
unfolding labelled
returns-then-is_some-clause-err c = first_of (assumption, search (tests, rules), grind (arith, common_steps), grind (arith, elements))

pub returns-else-is_some-clause-ok : goal.returns-else-is_some-clause-ok
unfolding labelled
returns-else-is_some-clause-ok c = first_of (assumption, search (tests, rules), grind (arith, common_steps), grind (arith, elements))

pub returns-else-is_some-clause-err : goal.returns-else-is_some-clause-err
unfolding labelled
returns-else-is_some-clause-err c = first_of (assumption, search (tests, rules), grind (arith, common_steps), grind (arith, elements))
