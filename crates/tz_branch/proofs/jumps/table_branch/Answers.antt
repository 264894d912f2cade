use Rattle.std.proofs.Common.{arith, rules, tests}
use Rattle.std.proofs.lemmas.Grind.{common_steps, elements}
use Rattle.tz_model.specs.Ports.{answers}
use Rattle.tz_sem.proofs.Local.{core_kept}
use Rattle.tz_branch.proofs.jumps.table_branch.Goals as goal

-- What the tactics try, by name: a body that is refused is then told without a search for what to offer.
pub returns-in-Ok-clause-executes : goal.returns-in-Ok-clause-executes
unfolding answers
returns-in-Ok-clause-executes g c = first_of (assumption, search (tests, rules), grind (arith, core_kept), grind (arith, common_steps), grind (arith, elements))

pub returns-in-Ok-clause-room : goal.returns-in-Ok-clause-room
unfolding answers
returns-in-Ok-clause-room g c = first_of (assumption, search (tests, rules), grind (arith, core_kept), grind (arith, common_steps), grind (arith, elements))

pub returns-in-Ok-clause-lent : goal.returns-in-Ok-clause-lent
unfolding answers
returns-in-Ok-clause-lent g c = first_of (assumption, search (tests, rules), grind (arith, core_kept), grind (arith, common_steps), grind (arith, elements))

pub returns-in-Err-clause-executes : goal.returns-in-Err-clause-executes
unfolding answers
returns-in-Err-clause-executes g c = first_of (assumption, search (tests, rules), grind (arith, core_kept), grind (arith, common_steps), grind (arith, elements))

pub returns-in-Err-clause-room : goal.returns-in-Err-clause-room
unfolding answers
returns-in-Err-clause-room g c = first_of (assumption, search (tests, rules), grind (arith, core_kept), grind (arith, common_steps), grind (arith, elements))

pub returns-in-Err-clause-lent : goal.returns-in-Err-clause-lent
unfolding answers
returns-in-Err-clause-lent g c = first_of (assumption, search (tests, rules), grind (arith, core_kept), grind (arith, common_steps), grind (arith, elements))
