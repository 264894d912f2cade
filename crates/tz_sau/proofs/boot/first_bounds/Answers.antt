use Rattle.std.proofs.Common.{arith}
use Rattle.std.proofs.lemmas.Grind.{common_steps}
use Rattle.tz_sau.proofs.boot.first_bounds.Goals as goal

-- The call that closes each goal, by name: what is tried before it finds nothing, after long.
pub loop-region-preserved : goal.loop-region-preserved
loop-region-preserved c = grind (arith, common_steps)

pub loop-init : goal.loop-init
loop-init c = grind (arith, common_steps)

pub loop-preserved : goal.loop-preserved
loop-preserved c = grind (arith, common_steps)

pub returns : goal.returns
returns c = grind (arith, common_steps)
