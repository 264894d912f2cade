use Rattle.std.proofs.Common.{rules, tests}
use Rattle.tz_excret.proofs.raise.raise.Goals as goal

-- The call that closes it, by name: a body that is refused is then told without a search for what to offer.
pub returns-in-Lockup : goal.returns-in-Lockup
returns-in-Lockup c = first_of (assumption, search (tests, rules))
