use Rattle.std.proofs.Common.{rules, tests}
use Rattle.tz_alu.proofs.data.is_below_limit.Goals as goal

-- The call that closes it, by name: a body that is refused is then told without a search for what to offer.
pub returns-then-is_limited : goal.returns-then-is_limited
returns-then-is_limited c = first_of (assumption, search (tests, rules))

pub returns-else-is_limited : goal.returns-else-is_limited
returns-else-is_limited c = first_of (assumption, search (tests, rules))
