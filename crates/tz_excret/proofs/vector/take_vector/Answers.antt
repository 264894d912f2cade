use Rattle.std.proofs.Common.{rules, tests}
use Rattle.tz_frames.specs.Enter.{vectored, vector_failed}
use Rattle.tz_excret.proofs.vector.take_vector.Goals as goal

-- The calls that close each, by name: a body that is refused is then told without a search for what to offer.
pub returns-in-Ok-clause-does : goal.returns-in-Ok-clause-does
unfolding vectored vector_failed
returns-in-Ok-clause-does g c = first_of (assumption, search (tests, rules))

pub returns-in-Err-clause-does : goal.returns-in-Err-clause-does
unfolding vectored vector_failed
returns-in-Err-clause-does g c = first_of (assumption, search (tests, rules))
