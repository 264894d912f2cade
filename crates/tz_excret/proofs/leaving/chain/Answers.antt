use Rattle.std.proofs.Common.{rules, tests}
use Rattle.tz_frames.specs.Leave.{chained}
use Rattle.tz_excret.proofs.leaving.chain.Goals as goal

-- The call that closes it, by name: a body that is refused is then told without a search for what to offer.
pub returns-clause-does : goal.returns-clause-does
unfolding chained
returns-clause-does g c = first_of (assumption, search (tests, rules))
