use Rattle.std.proofs.Common.{arith, rules, tests}
use Rattle.std.proofs.lemmas.Grind.{common_steps, elements}
use Rattle.tz_board.proofs.limits.is_apart.Goals as goal

-- What the tactics try, by name: a body that is refused is then told without a search for what to offer.
pub returns-then-from : goal.returns-then-from
returns-then-from c = first_of (assumption, search (tests, rules), grind (arith, common_steps), grind (arith, elements))

pub returns-else-from : goal.returns-else-from
returns-else-from c = first_of (assumption, search (tests, rules), grind (arith, common_steps), grind (arith, elements))
