use Rattle.std.proofs.Common.{rules, tests}
use Rattle.tz_scs.proofs.control.has_key.Goals as goal

-- The call that closes it, by name: a body that is refused is then told without a search for what to offer.
pub returns : goal.returns
returns c = first_of (assumption, search (tests, rules))
