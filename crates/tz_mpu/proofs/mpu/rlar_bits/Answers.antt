use Rattle.std.proofs.Common.{arith, rules, tests}
use Rattle.std.proofs.lemmas.Grind.{common_steps, elements}
use Rattle.tz_mpu.proofs.mpu.rlar_bits.Goals as goal

-- What the tactics try, by name: a body that is refused is then told without a search for what to offer.
pub returns-in-V80 : goal.returns-in-V80
returns-in-V80 c = first_of (assumption, search (tests, rules), grind (arith, common_steps), grind (arith, elements))

pub returns-in-V81 : goal.returns-in-V81
returns-in-V81 c = first_of (assumption, search (tests, rules), grind (arith, common_steps), grind (arith, elements))
