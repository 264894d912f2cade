use Rattle.std.proofs.Common.{rules, tests}
use Rattle.tz_excret.proofs.exc_return.returning_by.Goals as goal

-- The call that closes it, by name: a body that is refused is then told without a search for what to offer.
pub returns : goal.returns
returns c = first_of (assumption, search (tests, rules))
