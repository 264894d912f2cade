use Rattle.std.proofs.Common.{rules, tests}
use Rattle.tz_alu.proofs.data.shift_by_register.Goals as goal

-- The call that closes it, by name: a body that is refused is then told without a search for what to offer.
pub returns : goal.returns
returns c = first_of (assumption, search (tests, rules))
