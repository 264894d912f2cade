use Rattle.std.proofs.Common.{rules, tests}
use Rattle.tz_scs.proofs.control.write_aircr.Goals as goal

-- The call that closes it, by name: a body that is refused is then told without a search for what to offer.
pub returns-in-Secure : goal.returns-in-Secure
returns-in-Secure c = first_of (assumption, search (tests, rules))

pub returns-in-NonSecure : goal.returns-in-NonSecure
returns-in-NonSecure c = first_of (assumption, search (tests, rules))
