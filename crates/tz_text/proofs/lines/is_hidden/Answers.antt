use Rattle.std.proofs.Common.{arith, rules, tests}
use Rattle.std.proofs.lemmas.Grind.{common_steps, elements}
use Rattle.tz_text.proofs.lines.is_hidden.Goals as goal

-- What the tactics try, by name: a body that is refused is then told without a search for what to offer.
pub returns-then-report : goal.returns-then-report
returns-then-report c = first_of (assumption, search (tests, rules), grind (arith, common_steps), grind (arith, elements))

pub returns-else-report : goal.returns-else-report
returns-else-report c = first_of (assumption, search (tests, rules), grind (arith, common_steps), grind (arith, elements))
