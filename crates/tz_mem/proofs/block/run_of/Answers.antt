use Rattle.std.proofs.Common.{arith}
use Rattle.std.proofs.lemmas.Grind.{common_steps}
use Rattle.tz_mem.specs.Blocks.{run_in}
use Rattle.tz_mem.proofs.block.run_of.Goals as goal

-- The call that closes each goal, by name: what is tried before it finds nothing, after long.
pub returns-then-holds_all : goal.returns-then-holds_all
unfolding run_in
returns-then-holds_all c = grind (arith, common_steps)

pub returns-then-not-is_apart : goal.returns-then-not-is_apart
unfolding run_in
returns-then-not-is_apart c = grind (arith, common_steps)

pub loop-index-preserved : goal.loop-index-preserved
unfolding run_in
loop-index-preserved c = grind (arith, common_steps)

pub returns : goal.returns
unfolding run_in
returns c = grind (arith, common_steps)
