use Rattle.std.proofs.Common.{arith, rules, tests}
use Rattle.std.proofs.lemmas.Grind.{common_steps, elements}
use Rattle.tz_regs.proofs.parts.Stacks.uses_process.Goals as goal

-- What the tactics try, by name: a body that is refused is then told without a search for what to offer.
pub returns-then-ipsr-eq0 : goal.returns-then-ipsr-eq0
returns-then-ipsr-eq0 c = first_of (assumption, search (tests, rules), grind (arith, common_steps), grind (arith, elements))

pub returns-else-ipsr-eq0 : goal.returns-else-ipsr-eq0
returns-else-ipsr-eq0 c = first_of (assumption, search (tests, rules), grind (arith, common_steps), grind (arith, elements))
