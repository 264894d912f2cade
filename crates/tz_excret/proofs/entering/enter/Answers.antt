use Rattle.std.proofs.Common.{arith, rules, tests}
use Rattle.std.proofs.lemmas.Grind.{common_steps}
use Rattle.tz_frames.specs.Enter.{enters}
use Rattle.tz_excret.proofs.entering.enter.Goals as goal

-- The call that closes it, by name: a body that is refused is then told without a search for what to offer.
pub returns-clause-does : goal.returns-clause-does
unfolding enters
returns-clause-does g c = first_of (assumption, search (tests, rules))

-- The first call that the prover tries finds nothing here, after long: the one that does is named.
pub push_basic-requires : goal.push_basic-requires
unfolding enters
push_basic-requires g c = grind (arith, common_steps)

pub returns-then-raise_frame_fault-clause-does : goal.returns-then-raise_frame_fault-clause-does
unfolding enters
returns-then-raise_frame_fault-clause-does g c = grind (arith, common_steps)

pub returns-then-raise_frame_fault-clause-room : goal.returns-then-raise_frame_fault-clause-room
unfolding enters
returns-then-raise_frame_fault-clause-room g c = grind (arith, common_steps)

pub make_choices-requires : goal.make_choices-requires
unfolding enters
make_choices-requires g c = grind (arith, common_steps)

pub returns-clause-room : goal.returns-clause-room
unfolding enters
returns-clause-room g c = grind (arith, common_steps)
