use Rattle.std.proofs.Common.{arith, rules, tests}
use Rattle.std.proofs.lemmas.Grind.{common_steps, elements}
use Rattle.tz_decode.proofs.fields.signed.Goals as goal

-- What the tactics try, by name: a body that is refused is then told without a search for what to offer.
pub returns-then-value-half : goal.returns-then-value-half
returns-then-value-half c = first_of (assumption, search (tests, rules), grind (arith, common_steps), grind (arith, elements))

pub returns-else-value-half : goal.returns-else-value-half
returns-else-value-half c = first_of (assumption, search (tests, rules), grind (arith, common_steps), grind (arith, elements))
