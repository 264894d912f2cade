use Rattle.std.proofs.Common.{rules, tests}
use Rattle.tz_access.proofs.frames.vector_word.Goals as goal

-- What the tactics try first, by name: a body that is refused is then told without a search for what to offer.
pub returns-then-not-touches : goal.returns-then-not-touches
returns-then-not-touches c = first_of (assumption, search (tests, rules))

pub returns-in-Ok : goal.returns-in-Ok
returns-in-Ok c = first_of (assumption, search (tests, rules))

pub returns-in-Err : goal.returns-in-Err
returns-in-Err c = first_of (assumption, search (tests, rules))
