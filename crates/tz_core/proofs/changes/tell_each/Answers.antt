use Rattle.std.proofs.Common.{arith}
use Rattle.std.proofs.lemmas.Grind.{common_steps}
use Rattle.tz_sem.specs.Ended.{registers_changed}
use Rattle.tz_core.proofs.changes.tell_each.Goals as goal

-- The first call that the prover tries finds nothing here, after long: the one that does is named.
pub returns-clause-items : goal.returns-clause-items
unfolding registers_changed
returns-clause-items c = grind (arith, common_steps)

pub loop-k-init : goal.loop-k-init
unfolding registers_changed
loop-k-init c = grind (arith, common_steps)

pub loop-k-preserved : goal.loop-k-preserved
unfolding registers_changed
loop-k-preserved c = grind (arith, common_steps)
