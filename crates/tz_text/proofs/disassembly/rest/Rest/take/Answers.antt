use Rattle.std.proofs.Common.{arith}
use Rattle.std.proofs.lemmas.Grind.{common_steps}
use Rattle.tz_text.proofs.disassembly.rest.Rest.take.Goals as goal

-- The first call that the prover tries finds nothing at these goals, after long: the one that does is named.
pub remove-requires : goal.remove-requires
remove-requires c = grind (arith, common_steps)

pub loop-taken-preserved : goal.loop-taken-preserved
loop-taken-preserved c = grind (arith, common_steps)

pub overflow_add-self : goal.overflow_add-self
overflow_add-self c = grind (arith, common_steps)
