use Rattle.std.proofs.Common.{rules, tests}
use Rattle.tz_loadstore.proofs.many.lowest.Goals as goal

-- The call that closes it, by name: a body that is refused is then told without a search for what to offer.
pub returns-then-down : goal.returns-then-down
returns-then-down c = first_of (assumption, search (tests, rules))

pub returns-else-down : goal.returns-else-down
returns-else-down c = first_of (assumption, search (tests, rules))
