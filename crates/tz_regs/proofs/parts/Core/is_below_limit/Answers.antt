use Rattle.std.proofs.Common.{arith, rules, tests}
use Rattle.std.proofs.lemmas.Grind.{common_steps, elements}
use Rattle.tz_regs.proofs.parts.Core.is_below_limit.Goals as goal

-- What the tactics try, by name: a body that is refused is then told without a search for what to offer.
pub returns-then-sysm-ne152 : goal.returns-then-sysm-ne152
returns-then-sysm-ne152 c = first_of (assumption, search (tests, rules), grind (arith, common_steps), grind (arith, elements))

pub returns-then-privileged : goal.returns-then-privileged
returns-then-privileged c = first_of (assumption, search (tests, rules), grind (arith, common_steps), grind (arith, elements))

pub returns-else-privileged : goal.returns-else-privileged
returns-else-privileged c = first_of (assumption, search (tests, rules), grind (arith, common_steps), grind (arith, elements))

pub returns-in-NonSecure : goal.returns-in-NonSecure
returns-in-NonSecure c = first_of (assumption, search (tests, rules), grind (arith, common_steps), grind (arith, elements))
