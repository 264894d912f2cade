use Rattle.std.proofs.Common.{arith, rules, tests}
use Rattle.std.proofs.lemmas.Grind.{common_steps, elements}
use Rattle.tz_syntax.specs.Tokens.{number_of}
use Rattle.tz_syntax.proofs.number.number.Goals as goal

-- What the tactics try, by name: a body that is refused is then told without a search for what to offer.
pub returns-then-run-eq120 : goal.returns-then-run-eq120
unfolding number_of
returns-then-run-eq120 c = first_of (assumption, search (tests, rules), grind (arith, common_steps), grind (arith, elements))

pub returns-else-run-ge2 : goal.returns-else-run-ge2
unfolding number_of
returns-else-run-ge2 c = first_of (assumption, search (tests, rules), grind (arith, common_steps), grind (arith, elements))
