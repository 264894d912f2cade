use Rattle.std.proofs.Common.{arith, rules, tests}
use Rattle.std.proofs.lemmas.Grind.{common_steps, elements}
use Rattle.tz_text.proofs.instructions.push_meaning.Goals as goal

-- What the tactics try, by name: a body that is refused is then told without a search for what to offer.
pub returns-in-One-clause-bytes : goal.returns-in-One-clause-bytes
returns-in-One-clause-bytes c = first_of (assumption, search (tests, rules), grind (arith, common_steps), grind (arith, elements))

pub returns-in-One-clause-len : goal.returns-in-One-clause-len
returns-in-One-clause-len c = first_of (assumption, search (tests, rules), grind (arith, common_steps), grind (arith, elements))

pub returns-in-Undefined-Narrow-clause-bytes : goal.returns-in-Undefined-Narrow-clause-bytes
returns-in-Undefined-Narrow-clause-bytes c = first_of (assumption, search (tests, rules), grind (arith, common_steps), grind (arith, elements))

pub returns-in-Undefined-Narrow-clause-len : goal.returns-in-Undefined-Narrow-clause-len
returns-in-Undefined-Narrow-clause-len c = first_of (assumption, search (tests, rules), grind (arith, common_steps), grind (arith, elements))

pub returns-in-NoCoprocessor-clause-bytes : goal.returns-in-NoCoprocessor-clause-bytes
returns-in-NoCoprocessor-clause-bytes c = first_of (assumption, search (tests, rules), grind (arith, common_steps), grind (arith, elements))

pub returns-in-NoCoprocessor-clause-len : goal.returns-in-NoCoprocessor-clause-len
returns-in-NoCoprocessor-clause-len c = first_of (assumption, search (tests, rules), grind (arith, common_steps), grind (arith, elements))
