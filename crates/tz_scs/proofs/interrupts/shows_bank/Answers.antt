use Rattle.std.proofs.Common.{rules, tests}
use Rattle.tz_scs.proofs.interrupts.shows_bank.Goals as goal

-- The call that closes it, by name: a body that is refused is then told without a search for what to offer.
pub returns-in-Target : goal.returns-in-Target
returns-in-Target c = first_of (assumption, search (tests, rules))
