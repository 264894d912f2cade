use Rattle.std.proofs.Common.{arith, rules, tests}
use Rattle.std.proofs.lemmas.Grind.{common_steps, elements}
use Rattle.tz_regs.proofs.parts.Core.write_special.Goals as goal

-- What the tactics try, by name: a body that is refused is then told without a search for what to offer.
pub returns-then-sysm-lt4 : goal.returns-then-sysm-lt4
returns-then-sysm-lt4 c = first_of (assumption, search (tests, rules), grind (arith, common_steps), grind (arith, elements))

pub returns-then-not-privileged : goal.returns-then-not-privileged
returns-then-not-privileged c = first_of (assumption, search (tests, rules), grind (arith, common_steps), grind (arith, elements))

pub returns-then-sysm-lt128 : goal.returns-then-sysm-lt128
returns-then-sysm-lt128 c = first_of (assumption, search (tests, rules), grind (arith, common_steps), grind (arith, elements))

pub returns-else-sysm-lt128 : goal.returns-else-sysm-lt128
returns-else-sysm-lt128 c = first_of (assumption, search (tests, rules), grind (arith, common_steps), grind (arith, elements))
