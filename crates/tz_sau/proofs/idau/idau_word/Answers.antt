use Rattle.std.proofs.Common.{arith}
use Rattle.std.proofs.lemmas.Grind.{common_steps}
use Rattle.tz_state.specs.Attribution.{idau_side, idau_region}
use Rattle.tz_sau.proofs.idau.idau_word.Goals as goal

-- The call that closes each goal, by name: what is tried before it finds nothing, after long.
pub loop-index-preserved : goal.loop-index-preserved
unfolding idau_side idau_region
loop-index-preserved c = grind (arith, common_steps)
