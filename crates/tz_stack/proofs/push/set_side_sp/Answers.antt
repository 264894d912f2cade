use Rattle.std.proofs.Common.{rules}
use Rattle.tz_stack.proofs.push.set_side_sp.Goals as goal

-- The calls that close each, by name: a body that is refused is then told without a search for what to offer.
pub returns-in-Secure-true : goal.returns-in-Secure-true
returns-in-Secure-true c = first_of (assumption, search rules)

pub returns-in-Secure-false : goal.returns-in-Secure-false
returns-in-Secure-false c = first_of (assumption, search rules)

pub returns-in-NonSecure-true : goal.returns-in-NonSecure-true
returns-in-NonSecure-true c = first_of (assumption, search rules)

pub returns-in-NonSecure-false : goal.returns-in-NonSecure-false
returns-in-NonSecure-false c = first_of (assumption, search rules)
