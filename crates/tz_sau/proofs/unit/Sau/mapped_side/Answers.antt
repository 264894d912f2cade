use Rattle.std.proofs.Common.{arith, rules, tests}
use Rattle.std.proofs.lemmas.Grind.{common_steps, elements}
use Rattle.tz_state.specs.Attribution.{mapped_side}
use Rattle.tz_sau.proofs.unit.Sau.mapped_side.Goals as goal

-- What the tactics try, by name: a body that is refused is then told without a search for what to offer.
pub returns-in_default : goal.returns-in_default
unfolding mapped_side
returns-in_default c = first_of (assumption, search (tests, rules), grind (arith, common_steps), grind (arith, elements))
