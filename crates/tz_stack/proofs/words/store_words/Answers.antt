use Rattle.std.proofs.Common.{arith}
use Rattle.std.proofs.lemmas.Grind.{common_steps}
use Rattle.tz_frames.specs.Stack.{written}
use Rattle.tz_stack.proofs.words.store_words.Goals as goal

-- The first call that the prover tries finds nothing here, after long: the one that does is named.
pub loop-word-init : goal.loop-word-init
unfolding written
loop-word-init g c = grind (arith, common_steps)

pub frame_store-requires : goal.frame_store-requires
unfolding written
frame_store-requires g c = grind (arith, common_steps)

pub loop-word-preserved : goal.loop-word-preserved
unfolding written
loop-word-preserved g c = grind (arith, common_steps)

pub returns-in-Err-clause-written : goal.returns-in-Err-clause-written
unfolding written
returns-in-Err-clause-written g c = grind (arith, common_steps)

pub returns-in-Err-clause-room : goal.returns-in-Err-clause-room
unfolding written
returns-in-Err-clause-room g c = grind (arith, common_steps)

pub returns-clause-written : goal.returns-clause-written
unfolding written
returns-clause-written g c = grind (arith, common_steps)

pub returns-clause-room : goal.returns-clause-room
unfolding written
returns-clause-room g c = grind (arith, common_steps)
