use Rattle.std.proofs.Common.{arith}
use Rattle.std.proofs.lemmas.Grind.{common_steps}
use Rattle.tz_model.specs.Ports.{answers}
use Rattle.tz_gate.proofs.call.call_ns.Goals as goal

-- The first call that the prover tries finds nothing here, after long: the one that does is named.
pub overflow_mul-next : goal.overflow_mul-next
unfolding answers
overflow_mul-next g c = grind (arith, common_steps)

pub overflow_add-next : goal.overflow_add-next
unfolding answers
overflow_add-next g c = grind (arith, common_steps)

pub returns-then-base-limit-clause-called : goal.returns-then-base-limit-clause-called
unfolding answers
returns-then-base-limit-clause-called g c = grind (arith, common_steps)

pub returns-in-Ok-store-clause-called : goal.returns-in-Ok-store-clause-called
unfolding answers
returns-in-Ok-store-clause-called g c = grind (arith, common_steps)

pub returns-in-Ok-store-clause-room : goal.returns-in-Ok-store-clause-room
unfolding answers
returns-in-Ok-store-clause-room g c = grind (arith, common_steps)

pub returns-in-Err-store-clause-called : goal.returns-in-Err-store-clause-called
unfolding answers
returns-in-Err-store-clause-called g c = grind (arith, common_steps)

pub returns-in-Err-store-clause-room : goal.returns-in-Err-store-clause-room
unfolding answers
returns-in-Err-store-clause-room g c = grind (arith, common_steps)

pub returns-in-Err-clause-called : goal.returns-in-Err-clause-called
unfolding answers
returns-in-Err-clause-called g c = grind (arith, common_steps)
