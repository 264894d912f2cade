use Rattle.std.proofs.Common.{arith}
use Rattle.std.proofs.lemmas.Grind.{common_steps}
use Rattle.tz_mem.specs.Blocks.{place_in}
use Rattle.tz_mem.proofs.block.place_of.Goals as goal

-- The call that closes each goal, by name: what is tried before it finds nothing, after long.
pub returns-then-holds : goal.returns-then-holds
unfolding place_in
returns-then-holds c = grind (arith, common_steps)

pub loop-index-preserved : goal.loop-index-preserved
unfolding place_in
loop-index-preserved c = grind (arith, common_steps)
