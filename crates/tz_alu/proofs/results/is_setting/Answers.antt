use Rattle.std.proofs.Common.{rules, tests}
use Rattle.tz_alu.proofs.results.is_setting.Goals as goal

-- The call that closes it, by name: a body that is refused is then told without a search for what to offer.
pub returns-in-Never : goal.returns-in-Never
returns-in-Never c = first_of (assumption, search (tests, rules))

pub returns-in-Always : goal.returns-in-Always
returns-in-Always c = first_of (assumption, search (tests, rules))

pub returns-in-OutsideIt : goal.returns-in-OutsideIt
returns-in-OutsideIt c = first_of (assumption, search (tests, rules))
