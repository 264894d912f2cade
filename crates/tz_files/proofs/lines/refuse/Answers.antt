use Rattle.std.proofs.Common.{arith, rules, tests}
use Rattle.std.proofs.lemmas.Grind.{common_steps, elements}
use Rattle.tz_files.proofs.lines.refuse.Goals as goal

-- What the tactics try, by name: a body that is refused is then told without a search for what to offer.
pub returns-in-Ok : goal.returns-in-Ok
returns-in-Ok g c = first_of (assumption, search (tests, rules), grind (arith, common_steps), grind (arith, elements))

pub returns-in-Err : goal.returns-in-Err
returns-in-Err g c = first_of (assumption, search (tests, rules), grind (arith, common_steps), grind (arith, elements))
