use Rattle.std.proofs.Common.{arith}
use Rattle.std.proofs.lemmas.Grind.{common_steps}
use Rattle.tz_access.proofs.bus.Bus.new.Goals as goal

-- The call that closes the goal, by name: what is tried before it finds nothing, after long.
pub returns : goal.returns
returns c = grind (arith, common_steps)
