use Rattle.std.proofs.Common.{arith}
use Rattle.std.proofs.lemmas.Grind.{common_steps}
use Rattle.tz_mpu.proofs.mpu.unset.Goals as goal

-- The call that closes each goal, by name: what is tried before it finds nothing, after long.
pub push-requires : goal.push-requires
push-requires c = grind (arith, common_steps)

pub loop-preserved : goal.loop-preserved
loop-preserved c = grind (arith, common_steps)

pub returns : goal.returns
returns c = grind (arith, common_steps)
