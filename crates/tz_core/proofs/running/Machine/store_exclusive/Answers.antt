use Rattle.std.proofs.Common.{arith}
use Rattle.std.proofs.lemmas.Grind.{common_steps}
use Rattle.tz_core.proofs.running.Machine.store_exclusive.Goals as goal

-- The calls that close each, by name: a body that is refused is then told without a search for what to offer.
pub returns-then-monitor_take-clause-does : goal.returns-then-monitor_take-clause-does
returns-then-monitor_take-clause-does c = first_of (assumption, grind (arith, common_steps))

pub returns-clause-does : goal.returns-clause-does
returns-clause-does c = first_of (assumption, grind (arith, common_steps))
