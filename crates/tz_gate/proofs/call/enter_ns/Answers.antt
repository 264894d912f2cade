use Rattle.std.proofs.Common.{arith, rules, tests}
use Rattle.std.proofs.lemmas.Grind.{common_steps, elements}
use Rattle.tz_gate.proofs.call.enter_ns.Goals as goal

-- What the tactics try, by name: a body that is refused is then told without a search for what to offer.
pub returns-then-core-ne0 : goal.returns-then-core-ne0
returns-then-core-ne0 c = first_of (assumption, search (tests, rules), grind (arith, common_steps), grind (arith, elements))

pub returns-else-core-ne0 : goal.returns-else-core-ne0
returns-else-core-ne0 c = first_of (assumption, search (tests, rules), grind (arith, common_steps), grind (arith, elements))
