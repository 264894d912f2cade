use Rattle.std.proofs.Common.{rules, tests}
use Rattle.tz_alu.proofs.values.saturate_register.Goals as goal

-- The call that closes it, by name: a body that is refused is then told without a search for what to offer.
pub returns-after-registers : goal.returns-after-registers
returns-after-registers c = first_of (assumption, search (tests, rules))

pub returns-else-is_width : goal.returns-else-is_width
returns-else-is_width c = first_of (assumption, search (tests, rules))
