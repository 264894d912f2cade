use Rattle.std.proofs.Common.{arith}
use Rattle.std.proofs.lemmas.Grind.{common_steps}
use Rattle.tz_core.proofs.running.Machine.call.Goals as goal

-- The call that finds these soonest is named.
pub call_ns-called-requires : goal.call_ns-called-requires
call_ns-called-requires c = grind (arith, common_steps)

pub shape_of-self-inside : goal.shape_of-self-inside
shape_of-self-inside c = grind (arith, common_steps)

pub shape_of-self-inside-2 : goal.shape_of-self-inside-2
shape_of-self-inside-2 c = grind (arith, common_steps)
