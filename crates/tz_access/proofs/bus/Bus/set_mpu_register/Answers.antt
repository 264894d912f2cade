use Rattle.std.proofs.Common.{arith, rules, tests}
use Rattle.std.proofs.lemmas.Grind.{common_steps, elements}
use Rattle.tz_access.proofs.bus.Bus.set_mpu_register.Goals as goal

-- What the tactics try, by name: a body that is refused is then told without a search for what to offer.
pub invariant_of-self : goal.invariant_of-self
invariant_of-self c = first_of (assumption, search (tests, rules), grind (arith, common_steps), grind (arith, elements))

pub invariant_of-self-in-NonSecure : goal.invariant_of-self-in-NonSecure
invariant_of-self-in-NonSecure c = first_of (assumption, search (tests, rules), grind (arith, common_steps), grind (arith, elements))
