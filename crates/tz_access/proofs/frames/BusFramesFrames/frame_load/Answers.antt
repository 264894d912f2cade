use Rattle.std.proofs.Common.{rules, tests}
use Rattle.tz_access.proofs.frames.BusFramesFrames.frame_load.Goals as goal

-- What the tactics try first, by name: a body that is refused is then told without a search for what to offer.
pub returns-clause-answer : goal.returns-clause-answer
returns-clause-answer c = first_of (assumption, search (tests, rules))

pub returns-clause-kept : goal.returns-clause-kept
returns-clause-kept c = first_of (assumption, search (tests, rules))

pub returns-clause-room : goal.returns-clause-room
returns-clause-room c = first_of (assumption, search (tests, rules))

pub returns-clause-lent : goal.returns-clause-lent
returns-clause-lent c = first_of (assumption, search (tests, rules))
