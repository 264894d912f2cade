use Rattle.std.proofs.Common.{rules}
use Rattle.tz_loadstore.proofs.addresses.refusal.Goals as goal

-- The call that closes it, by name: a body that is refused is then told without a search for what to offer.
pub returns-in-Pre : goal.returns-in-Pre
returns-in-Pre c = first_of (assumption, search rules)
