use Rattle.std.proofs.Common.{rules, tests}
use Rattle.tz_alu.proofs.data.places.Goals as goal

-- The call that closes it, by name: a body that is refused is then told without a search for what to offer.
pub returns-in_default : goal.returns-in_default
returns-in_default c = first_of (assumption, search (tests, rules))
