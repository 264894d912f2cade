use Rattle.std.proofs.Common.{arith}
use Rattle.std.proofs.lemmas.Grind.{common_steps}
use Rattle.tz_frames.specs.Leave.{unstacked}
use Rattle.tz_excret.proofs.frame.unstack.Goals as goal

-- The first call that the prover tries finds nothing here, after long: the one that does is named.
pub returns-clause-read : goal.returns-clause-read
unfolding unstacked
returns-clause-read g c = grind (arith, common_steps)

pub returns-in_err-basic-clause-read : goal.returns-in_err-basic-clause-read
unfolding unstacked
returns-in_err-basic-clause-read g c = grind (arith, common_steps)
