use Rattle.std.proofs.Common.{arith, rules, tests}
use Rattle.std.proofs.lemmas.Grind.{common_steps, elements}
use Rattle.tz_encode.proofs.encoding.code_of_halves.Goals as goal

-- What the tactics try, by name: a body that is refused is then told without a search for what to offer.
pub returns-in-Narrow : goal.returns-in-Narrow
returns-in-Narrow c = first_of (assumption, search (tests, rules), grind (arith, common_steps), grind (arith, elements))

pub returns-in-Wide : goal.returns-in-Wide
returns-in-Wide c = first_of (assumption, search (tests, rules), grind (arith, common_steps), grind (arith, elements))
