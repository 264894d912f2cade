use Rattle.std.proofs.Common.{arith, rules, tests}
use Rattle.std.proofs.lemmas.Grind.{common_steps, elements}
use Rattle.tz_state.specs.Access.{verdict}
use Rattle.tz_access.proofs.bus.Bus.guard.Goals as goal

-- What the tactics try, by name: a body that is refused is then told without a search for what to offer.
pub returns-then-is_crooked : goal.returns-then-is_crooked
unfolding verdict
returns-then-is_crooked c = first_of (assumption, search (tests, rules), grind (arith, common_steps), grind (arith, elements))

pub returns-then-not-touches : goal.returns-then-not-touches
unfolding verdict
returns-then-not-touches c = first_of (assumption, search (tests, rules), grind (arith, common_steps), grind (arith, elements))

pub returns-then-not-is_let : goal.returns-then-not-is_let
unfolding verdict
returns-then-not-is_let c = first_of (assumption, search (tests, rules), grind (arith, common_steps), grind (arith, elements))

pub returns-then-not-is_private : goal.returns-then-not-is_private
unfolding verdict
returns-then-not-is_private c = first_of (assumption, search (tests, rules), grind (arith, common_steps), grind (arith, elements))

pub returns-then-request : goal.returns-then-request
unfolding verdict
returns-then-request c = first_of (assumption, search (tests, rules), grind (arith, common_steps), grind (arith, elements))

pub returns : goal.returns
unfolding verdict
returns c = first_of (assumption, search (tests, rules), grind (arith, common_steps), grind (arith, elements))
