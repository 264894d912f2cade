use Rattle.std.proofs.Common.{arith}
use Rattle.std.proofs.lemmas.Grind.{common_steps}
use Rattle.tz_frames.specs.Leave.{goes_back}
use Rattle.tz_excret.proofs.leaving.go_back.Goals as goal

-- The first call that the prover tries finds nothing here, after long: the one that does is named.
pub returns-then-takes_first_uncounted-clause-does : goal.returns-then-takes_first_uncounted-clause-does
unfolding goes_back
returns-then-takes_first_uncounted-clause-does g c = grind (arith, common_steps)

pub returns-clause-does : goal.returns-clause-does
unfolding goes_back
returns-clause-does g c = grind (arith, common_steps)
