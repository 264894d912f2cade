use Rattle.std.proofs.Common.{arith, rules, tests}
use Rattle.std.proofs.lemmas.Grind.{common_steps, elements}
use Rattle.tz_text.proofs.lines.push_report.Goals as goal

-- What the tactics try, by name: a body that is refused is then told without a search for what to offer.
pub returns-in-Locked-clause-bytes : goal.returns-in-Locked-clause-bytes
returns-in-Locked-clause-bytes c = first_of (assumption, search (tests, rules), grind (arith, common_steps), grind (arith, elements))

pub returns-in-Locked-clause-len : goal.returns-in-Locked-clause-len
returns-in-Locked-clause-len c = first_of (assumption, search (tests, rules), grind (arith, common_steps), grind (arith, elements))

pub returns-in-Idle-clause-bytes : goal.returns-in-Idle-clause-bytes
returns-in-Idle-clause-bytes c = first_of (assumption, search (tests, rules), grind (arith, common_steps), grind (arith, elements))

pub returns-in-Idle-clause-len : goal.returns-in-Idle-clause-len
returns-in-Idle-clause-len c = first_of (assumption, search (tests, rules), grind (arith, common_steps), grind (arith, elements))

pub returns-in-Taken-clause-bytes : goal.returns-in-Taken-clause-bytes
returns-in-Taken-clause-bytes c = first_of (assumption, search (tests, rules), grind (arith, common_steps), grind (arith, elements))

pub returns-in-Taken-clause-len : goal.returns-in-Taken-clause-len
returns-in-Taken-clause-len c = first_of (assumption, search (tests, rules), grind (arith, common_steps), grind (arith, elements))

pub returns-in-Ran-clause-bytes : goal.returns-in-Ran-clause-bytes
returns-in-Ran-clause-bytes c = first_of (assumption, search (tests, rules), grind (arith, common_steps), grind (arith, elements))

pub returns-in-Ran-clause-len : goal.returns-in-Ran-clause-len
returns-in-Ran-clause-len c = first_of (assumption, search (tests, rules), grind (arith, common_steps), grind (arith, elements))
