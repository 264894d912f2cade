use Rattle.std.proofs.Common.{arith, rules, tests}
use Rattle.std.proofs.lemmas.Grind.{common_steps, elements}
use Rattle.tz_prio.proofs.escalation.escalate.Goals as goal

-- What the tactics try, by name: a body that is refused is then told without a search for what to offer.
pub returns-then-can_take : goal.returns-then-can_take
returns-then-can_take c = first_of (assumption, search (tests, rules), grind (arith, common_steps), grind (arith, elements))

pub returns : goal.returns
returns c = first_of (assumption, search (tests, rules), grind (arith, common_steps), grind (arith, elements))
