use Rattle.std.proofs.Common.{arith, rules, tests}
use Rattle.std.proofs.lemmas.Grind.{common_steps, elements}
use Rattle.tz_mpu.proofs.permission.may_run.Goals as goal

-- What the tactics try, by name: a body that is refused is then told without a search for what to offer.
pub returns-after-privileged : goal.returns-after-privileged
returns-after-privileged c = first_of (assumption, search (tests, rules), grind (arith, common_steps), grind (arith, elements))

pub returns-else-bounds-eq0 : goal.returns-else-bounds-eq0
returns-else-bounds-eq0 c = first_of (assumption, search (tests, rules), grind (arith, common_steps), grind (arith, elements))
