use Rattle.std.proofs.Common.{arith}
use Rattle.std.proofs.lemmas.Grind.{common_steps}
use Rattle.tz_model.specs.Ports.{answers}
use Rattle.tz_loadstore.proofs.single.load.Goals as goal

-- The first call that the prover tries finds nothing here, after long: the one that does is named.
pub returns-in-Ok-clause-executes : goal.returns-in-Ok-clause-executes
unfolding answers
returns-in-Ok-clause-executes g c = grind (arith, common_steps)
