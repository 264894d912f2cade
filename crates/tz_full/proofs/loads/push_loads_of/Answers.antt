use Rattle.std.proofs.Common.{arith, append-nil, rules, tests}
use Rattle.std.proofs.lemmas.Grind.{common_steps}
use Rattle.tz_full.specs.LoadLines.{loads_text}
use Rattle.tz_full.proofs.loads.push_loads_of.Goals as goal

-- All other instructions: none of them has a load.
pub returns-in_default : goal.returns-in_default
unfolding loads_text
returns-in_default c = first_of (search (tests, rules), grind (arith, common_steps, append-nil))
