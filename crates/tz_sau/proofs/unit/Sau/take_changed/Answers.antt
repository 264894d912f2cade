use Rattle.std.proofs.Common.{arith, rules, tests}
use Rattle.std.proofs.lemmas.Grind.{common_steps, elements}
use Rattle.tz_sau.proofs.unit.Sau.take_changed.Goals as goal

-- What the tactics try, by name: a body that is refused is then told without a search for what to offer.
pub returns-clause-taken : goal.returns-clause-taken
returns-clause-taken c = first_of (assumption, search (tests, rules), grind (arith, common_steps), grind (arith, elements))
