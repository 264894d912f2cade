use Rattle.std.proofs.Common.{rules, tests}
use Rattle.tz_excret.proofs.exc_return.is_forged.Goals as goal

-- The call that closes it, by name: a body that is refused is then told without a search for what to offer.
pub returns-else-value-eq1 : goal.returns-else-value-eq1
returns-else-value-eq1 c = first_of (assumption, search (tests, rules))
