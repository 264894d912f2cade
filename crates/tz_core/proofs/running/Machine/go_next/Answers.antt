use Rattle.std.proofs.Common.{rules, tests}
use Rattle.tz_core.proofs.running.Machine.go_next.Goals as goal

-- The call that closes it, by name: a body that is refused is then told without a search for what to offer.
pub returns-clause-does : goal.returns-clause-does
returns-clause-does c = first_of (assumption, search (tests, rules))
