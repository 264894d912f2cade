use Rattle.std.proofs.Common.{rules, tests}
use Rattle.tz_access.proofs.frames.of_side.Goals as goal

-- What the tactics try first, by name: a body that is refused is then told without a search for what to offer.
pub returns-in-Secure : goal.returns-in-Secure
returns-in-Secure c = first_of (assumption, search (tests, rules))

pub returns-in-NonSecure : goal.returns-in-NonSecure
returns-in-NonSecure c = first_of (assumption, search (tests, rules))
