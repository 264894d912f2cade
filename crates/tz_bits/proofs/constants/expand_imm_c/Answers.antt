use Rattle.std.proofs.Common.{arith, rules, tests}
use Rattle.std.proofs.lemmas.Grind.{common_steps, elements}
use Rattle.tz_bits.proofs.constants.expand_imm_c.Goals as goal

-- What the tactics try, by name: a body that is refused is then told without a search for what to offer.
pub returns-in-1 : goal.returns-in-1
returns-in-1 c = first_of (assumption, search (tests, rules), grind (arith, common_steps), grind (arith, elements))

pub returns-in-16-to-65535 : goal.returns-in-16-to-65535
returns-in-16-to-65535 c = first_of (assumption, search (tests, rules), grind (arith, common_steps), grind (arith, elements))

pub returns-in-16-to-65535-2 : goal.returns-in-16-to-65535-2
returns-in-16-to-65535-2 c = first_of (assumption, search (tests, rules), grind (arith, common_steps), grind (arith, elements))

pub returns-then-imm12-lt1024 : goal.returns-then-imm12-lt1024
returns-then-imm12-lt1024 c = first_of (assumption, search (tests, rules), grind (arith, common_steps), grind (arith, elements))

pub returns-else-imm12-lt1024 : goal.returns-else-imm12-lt1024
returns-else-imm12-lt1024 c = first_of (assumption, search (tests, rules), grind (arith, common_steps), grind (arith, elements))
