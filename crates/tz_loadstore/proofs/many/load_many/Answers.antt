use Rattle.std.proofs.Common.{rules, tests}
use Rattle.tz_loadstore.proofs.many.load_many.Goals as goal

-- The calls that close each, by name: a body that is refused is then told without a search for what to offer.
pub returns-in-Some-clause-executes : goal.returns-in-Some-clause-executes
returns-in-Some-clause-executes g c = first_of (assumption, search (tests, rules))

pub returns-in_err-words-clause-executes : goal.returns-in_err-words-clause-executes
returns-in_err-words-clause-executes g c = first_of (assumption, search (tests, rules))

pub returns-clause-executes : goal.returns-clause-executes
returns-clause-executes g c = first_of (assumption, search (tests, rules))
