use Rattle.std.proofs.Common.{arith}
use Rattle.std.proofs.lemmas.Grind.{common_steps}
use Rattle.tz_state.specs.Access.{is_mapped}
use Rattle.tz_access.proofs.units.is_mapped.Goals as goal

-- The call that closes the goal, by name: what is tried before it finds nothing, after long.
pub loop-region-preserved : goal.loop-region-preserved
unfolding is_mapped
loop-region-preserved c = grind (arith, common_steps)
