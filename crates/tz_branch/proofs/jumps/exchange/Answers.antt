use Rattle.std.proofs.Common.{arith, rules, tests}
use Rattle.std.proofs.lemmas.Grind.{common_steps, elements}
use Rattle.tz_sem.proofs.Local.{core_kept}
use Rattle.tz_branch.proofs.jumps.exchange.Goals as goal

-- What the tactics try, by name: a body that is refused is then told without a search for what to offer.
pub returns-then-eq : goal.returns-then-eq
returns-then-eq c = first_of (assumption, search (tests, rules), grind (arith, core_kept), grind (arith, common_steps), grind (arith, elements))

pub returns : goal.returns
returns c = first_of (assumption, search (tests, rules), grind (arith, core_kept), grind (arith, common_steps), grind (arith, elements))
