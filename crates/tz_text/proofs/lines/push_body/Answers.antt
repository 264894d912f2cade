use Rattle.std.proofs.Common.{arith, rules, tests}
use Rattle.std.proofs.lemmas.Grind.{common_steps, elements}
use Rattle.tz_text.proofs.lines.push_body.Goals as goal

-- What the tactics try, by name: a body that is refused is then told without a search for what to offer.
pub returns-then-is_hidden-clause-bytes : goal.returns-then-is_hidden-clause-bytes
returns-then-is_hidden-clause-bytes c = first_of (assumption, search (tests, rules), grind (arith, common_steps), grind (arith, elements))

pub returns-then-is_hidden-clause-len : goal.returns-then-is_hidden-clause-len
returns-then-is_hidden-clause-len c = first_of (assumption, search (tests, rules), grind (arith, common_steps), grind (arith, elements))

pub returns-else-is_hidden-clause-bytes : goal.returns-else-is_hidden-clause-bytes
returns-else-is_hidden-clause-bytes c = first_of (assumption, search (tests, rules), grind (arith, common_steps), grind (arith, elements))

pub returns-else-is_hidden-clause-len : goal.returns-else-is_hidden-clause-len
returns-else-is_hidden-clause-len c = first_of (assumption, search (tests, rules), grind (arith, common_steps), grind (arith, elements))

pub returns-in-All-clause-bytes : goal.returns-in-All-clause-bytes
returns-in-All-clause-bytes c = first_of (assumption, search (tests, rules), grind (arith, common_steps), grind (arith, elements))

pub returns-in-All-clause-len : goal.returns-in-All-clause-len
returns-in-All-clause-len c = first_of (assumption, search (tests, rules), grind (arith, common_steps), grind (arith, elements))
