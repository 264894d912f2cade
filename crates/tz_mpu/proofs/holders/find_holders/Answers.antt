use Rattle.std.proofs.Common.{arith}
use Rattle.std.proofs.lemmas.Grind.{common_steps}
use Rattle.tz_state.specs.Regions.{holding}
use Rattle.tz_mpu.proofs.holders.find_holders.Goals as goal

-- The call that closes each goal, by name: what is tried before it finds nothing, after long.
pub returns-in_default : goal.returns-in_default
unfolding holding
returns-in_default c = grind (arith, common_steps)

pub loop-index-preserved : goal.loop-index-preserved
unfolding holding
loop-index-preserved c = grind (arith, common_steps)

pub returns : goal.returns
unfolding holding
returns c = grind (arith, common_steps)
