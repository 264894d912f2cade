use Rattle.std.proofs.Common.{arith, rules, tests}
use Rattle.std.proofs.lemmas.Grind.{common_steps, elements}
use Rattle.tz_gate.proofs.returning.numbers_agree.Goals as goal

-- What the tactics try, by name: a body that is refused is then told without a search for what to offer.
pub returns-then-ipsr-eq0 : goal.returns-then-ipsr-eq0
returns-then-ipsr-eq0 c = first_of (assumption, search (tests, rules), grind (arith, common_steps), grind (arith, elements))

pub returns-then-ipsr-eq1 : goal.returns-then-ipsr-eq1
returns-then-ipsr-eq1 c = first_of (assumption, search (tests, rules), grind (arith, common_steps), grind (arith, elements))

pub returns-else-ipsr-eq1 : goal.returns-else-ipsr-eq1
returns-else-ipsr-eq1 c = first_of (assumption, search (tests, rules), grind (arith, common_steps), grind (arith, elements))
