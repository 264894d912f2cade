use Rattle.std.proofs.Common.{rules, tests}
use Rattle.tz_model.proofs.outside.ShelfErrorFromAllocError.from.Goals as goal

-- What the tactics try first, by name: a body that is refused is then told without a search for what to offer.
pub returns : goal.returns
returns c = first_of (assumption, search (tests, rules))
