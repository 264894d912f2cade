use Rattle.std.proofs.Common.{arith, rules, tests}
use Rattle.std.proofs.lemmas.Grind.{common_steps, elements}
use Rattle.tz_mpu.proofs.mpu.Mpu.selected.Goals as goal

-- What the tactics try, by name: a body that is refused is then told without a search for what to offer.
pub returns-then-alias-eq0 : goal.returns-then-alias-eq0
returns-then-alias-eq0 c = first_of (assumption, search (tests, rules), grind (arith, common_steps), grind (arith, elements))

pub returns-else-alias-eq0 : goal.returns-else-alias-eq0
returns-else-alias-eq0 c = first_of (assumption, search (tests, rules), grind (arith, common_steps), grind (arith, elements))
