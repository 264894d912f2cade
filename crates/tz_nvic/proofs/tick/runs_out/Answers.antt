use Rattle.std.proofs.Common.{arith, rules, tests}
use Rattle.std.proofs.lemmas.Grind.{common_steps, elements}
use Rattle.tz_nvic.proofs.tick.runs_out.Goals as goal

-- What the tactics try, by name: a body that is refused is then told without a search for what to offer.
pub returns-then-counts : goal.returns-then-counts
returns-then-counts c = first_of (assumption, search (tests, rules), grind (arith, common_steps), grind (arith, elements))

pub returns-else-counts : goal.returns-else-counts
returns-else-counts c = first_of (assumption, search (tests, rules), grind (arith, common_steps), grind (arith, elements))
