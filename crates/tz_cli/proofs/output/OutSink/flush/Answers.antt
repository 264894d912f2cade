use Rattle.std.proofs.Common.{arith, rules, tests}
use Rattle.std.proofs.lemmas.Grind.{common_steps, elements}
use Rattle.tz_cli.proofs.output.OutSink.flush.Goals as goal

-- What the tactics try, by name: a body that is refused is then told without a search for what to offer.
pub returns-then-not-send : goal.returns-then-not-send
returns-then-not-send g c = first_of (assumption, search (tests, rules), grind (arith, common_steps), grind (arith, elements))

pub returns-then-not-passed : goal.returns-then-not-passed
returns-then-not-passed g c = first_of (assumption, search (tests, rules), grind (arith, common_steps), grind (arith, elements))

pub returns-else-not-passed : goal.returns-else-not-passed
returns-else-not-passed g c = first_of (assumption, search (tests, rules), grind (arith, common_steps), grind (arith, elements))
