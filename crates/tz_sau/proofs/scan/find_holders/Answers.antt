use Rattle.std.proofs.Common.{arith}
use Rattle.std.proofs.lemmas.Grind.{common_steps}
use Rattle.tz_state.specs.Regions.{holding}
use Rattle.tz_sau.proofs.scan.find_holders.Goals as goal

-- The call that closes each goal, by name: what is tried before it finds nothing, after long.
pub returns-then-is_some : goal.returns-then-is_some
unfolding holding
returns-then-is_some c = grind (arith, common_steps)

pub loop-index-preserved : goal.loop-index-preserved
unfolding holding
loop-index-preserved c = grind (arith, common_steps)

pub returns-in-None : goal.returns-in-None
unfolding holding
returns-in-None c = grind (arith, common_steps)

pub returns-in-Some : goal.returns-in-Some
unfolding holding
returns-in-Some c = grind (arith, common_steps)
