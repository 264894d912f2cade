use Rattle.std.proofs.Common.{arith}
use Rattle.std.proofs.lemmas.Grind.{common_steps}
use Rattle.tz_frames.specs.Enter.{taking}
use Rattle.tz_excret.proofs.choices.take.Goals as goal

-- The first call that the prover tries finds nothing here, after long: the one that does is named.
pub returns-clause-does : goal.returns-clause-does
unfolding taking
returns-clause-does g c = grind (arith, common_steps)

pub take_stacked-requires-clause-slot : goal.take_stacked-requires-clause-slot
unfolding taking
take_stacked-requires-clause-slot g c = grind (arith, common_steps)

pub take_stacked-requires-clause-room : goal.take_stacked-requires-clause-room
unfolding taking
take_stacked-requires-clause-room g c = grind (arith, common_steps)

pub returns-then-not-entry-clause-does : goal.returns-then-not-entry-clause-does
unfolding taking
returns-then-not-entry-clause-does g c = grind (arith, common_steps)

pub returns-then-not-entry-clause-room : goal.returns-then-not-entry-clause-room
unfolding taking
returns-then-not-entry-clause-room g c = grind (arith, common_steps)

pub take_vector-requires : goal.take_vector-requires
unfolding taking
take_vector-requires g c = grind (arith, common_steps)

pub returns-clause-room : goal.returns-clause-room
unfolding taking
returns-clause-room g c = grind (arith, common_steps)
