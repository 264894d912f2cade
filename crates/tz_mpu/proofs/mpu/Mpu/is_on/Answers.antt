use Rattle.std.proofs.Common.{arith, rules, tests}
use Rattle.std.proofs.lemmas.Grind.{common_steps, elements}
use Rattle.tz_mpu.proofs.mpu.Mpu.is_on.Goals as goal

-- What the tactics try, by name: a body that is refused is then told without a search for what to offer.
pub returns-then-self-eq1-2 : goal.returns-then-self-eq1-2
returns-then-self-eq1-2 c = first_of (assumption, search (tests, rules), grind (arith, common_steps), grind (arith, elements))

pub returns-else-self-eq1-2 : goal.returns-else-self-eq1-2
returns-else-self-eq1-2 c = first_of (assumption, search (tests, rules), grind (arith, common_steps), grind (arith, elements))

pub returns-else-self-eq1 : goal.returns-else-self-eq1
returns-else-self-eq1 c = first_of (assumption, search (tests, rules), grind (arith, common_steps), grind (arith, elements))
