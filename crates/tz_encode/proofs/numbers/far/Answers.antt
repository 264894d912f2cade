use Rattle.std.proofs.Common.{arith, rules, tests}
use Rattle.std.proofs.lemmas.Grind.{common_steps, elements}
use Rattle.tz_encode.proofs.numbers.far.Goals as goal

-- What the tactics try, by name: a body that is refused is then told without a search for what to offer.
pub returns-clause-is : goal.returns-clause-is
returns-clause-is c = first_of (assumption, search (tests, rules), grind (arith, common_steps), grind (arith, elements))

pub returns-clause-fits : goal.returns-clause-fits
returns-clause-fits c = first_of (assumption, search (tests, rules), grind (arith, common_steps), grind (arith, elements))
