use Rattle.std.proofs.Common.{arith}
use Rattle.std.proofs.lemmas.Grind.{common_steps}
use Rattle.tz_core.proofs.running.Machine.return_by.Goals as goal

-- The call that finds these soonest is named.
pub leave-requires : goal.leave-requires
leave-requires c = grind (arith, common_steps)

pub shape_of-self-inside : goal.shape_of-self-inside
shape_of-self-inside c = grind (arith, common_steps)
