use Rattle.std.proofs.Common.{arith, rules, tests}
use Rattle.std.proofs.lemmas.Grind.{common_steps, elements}
use Rattle.tz_prio.proofs.masks.basepri_priority.Goals as goal

-- What the tactics try, by name: a body that is refused is then told without a search for what to offer.
pub returns-else-byte-eq0-clause-is : goal.returns-else-byte-eq0-clause-is
returns-else-byte-eq0-clause-is c = first_of (assumption, search (tests, rules), grind (arith, common_steps), grind (arith, elements))
