use Rattle.std.proofs.Common.{rules, tests}
use Rattle.tz_decode.proofs.registers.of_three.Goals as goal

-- The first call that the tactics try, by name: a body that is refused is then told without a search for what to offer.
pub returns : goal.returns
returns c = first_of (assumption, search (tests, rules))
