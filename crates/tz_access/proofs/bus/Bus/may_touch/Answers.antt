use Rattle.std.proofs.Common.{arith, rules, tests}
use Rattle.std.proofs.lemmas.Grind.{common_steps, elements}
use Rattle.tz_state.specs.Access.{may_touch}
use Rattle.tz_access.proofs.bus.Bus.may_touch.Goals as goal

-- What the tactics try, by name: a body that is refused is then told without a search for what to offer.
pub returns-then-is_one_block : goal.returns-then-is_one_block
unfolding may_touch
returns-then-is_one_block c = first_of (assumption, search (tests, rules), grind (arith, common_steps), grind (arith, elements))

pub returns-else-is_one_block : goal.returns-else-is_one_block
unfolding may_touch
returns-else-is_one_block c = first_of (assumption, search (tests, rules), grind (arith, common_steps), grind (arith, elements))

pub returns-else-is_open : goal.returns-else-is_open
unfolding may_touch
returns-else-is_open c = first_of (assumption, search (tests, rules), grind (arith, common_steps), grind (arith, elements))
