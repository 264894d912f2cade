use Rattle.std.proofs.Common.{arith}
use Rattle.std.proofs.lemmas.Grind.{common_steps}
use Rattle.tz_stack.proofs.pop.pop_basic.Goals as goal

-- The calls that close it, by name: a body that is refused is then told without a search for what to offer.
pub returns-clause-read : goal.returns-clause-read
returns-clause-read g c = first_of (assumption, grind (arith, common_steps))
