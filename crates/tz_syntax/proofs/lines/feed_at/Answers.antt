use Rattle.std.proofs.Common.{arith, rules, tests}
use Rattle.std.proofs.lemmas.Grind.{common_steps, elements}
use Rattle.tz_syntax.proofs.lines.feed_at.Goals as goal

-- What the tactics try, by name: a body that is refused is then told without a search for what to offer.
pub returns-then-byte-eq10-clause-within : goal.returns-then-byte-eq10-clause-within
returns-then-byte-eq10-clause-within c = first_of (assumption, search (tests, rules), grind (arith, common_steps), grind (arith, elements))

pub returns-then-byte-eq10-clause-before : goal.returns-then-byte-eq10-clause-before
returns-then-byte-eq10-clause-before c = first_of (assumption, search (tests, rules), grind (arith, common_steps), grind (arith, elements))

pub returns-then-byte-eq10-clause-found : goal.returns-then-byte-eq10-clause-found
returns-then-byte-eq10-clause-found c = first_of (assumption, search (tests, rules), grind (arith, common_steps), grind (arith, elements))

pub loop-place-preserved : goal.loop-place-preserved
loop-place-preserved c = first_of (assumption, search (tests, rules), grind (arith, common_steps), grind (arith, elements))

pub returns-clause-within : goal.returns-clause-within
returns-clause-within c = first_of (assumption, search (tests, rules), grind (arith, common_steps), grind (arith, elements))

pub returns-clause-before : goal.returns-clause-before
returns-clause-before c = first_of (assumption, search (tests, rules), grind (arith, common_steps), grind (arith, elements))

pub returns-clause-found : goal.returns-clause-found
returns-clause-found c = first_of (assumption, search (tests, rules), grind (arith, common_steps), grind (arith, elements))
