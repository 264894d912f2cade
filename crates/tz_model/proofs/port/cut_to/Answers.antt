use Rattle.std.proofs.Common.{rules, tests}
use Rattle.tz_model.proofs.port.cut_to.Goals as goal

-- What the tactics try first, by name: a body that is refused is then told without a search for what to offer.
pub returns-in-Byte : goal.returns-in-Byte
returns-in-Byte c = first_of (assumption, search (tests, rules))

pub returns-in-Half : goal.returns-in-Half
returns-in-Half c = first_of (assumption, search (tests, rules))

pub returns-in-Word : goal.returns-in-Word
returns-in-Word c = first_of (assumption, search (tests, rules))
