use Rattle.std.proofs.Common.{rules, tests}
use Rattle.tz_syntax.proofs.search.fits.Goals as goal

-- What the tactics try, by name: a body that is refused is then told without a search for what to offer.
pub returns-then-same_width : goal.returns-then-same_width
returns-then-same_width c = first_of (assumption, search (tests, rules))
