use Rattle.std.proofs.Common.{rules, tests}
use Rattle.tz_model.proofs.report.Report.new.Goals as goal

-- What the tactics try first, by name: a body that is refused is then told without a search for what to offer.
pub returns-clause-changes : goal.returns-clause-changes
returns-clause-changes c = first_of (assumption, search (tests, rules))

pub returns-clause-stores : goal.returns-clause-stores
returns-clause-stores c = first_of (assumption, search (tests, rules))
