use Rattle.std.proofs.Common.{rules, tests}
use Rattle.tz_scs.proofs.views.alias_found.Goals as goal

-- The call that closes it, by name: a body that is refused is then told without a search for what to offer.
pub returns-then-addr-le-SCS_NS_LAST : goal.returns-then-addr-le-SCS_NS_LAST
returns-then-addr-le-SCS_NS_LAST c = first_of (assumption, search (tests, rules))
