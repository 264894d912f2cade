use Rattle.std.proofs.Common.{rules, tests}
use Rattle.tz_scs.proofs.table.register_at.Goals as goal

-- The first call that the prover tries finds nothing here, after long: the one that does is named.
pub returns-then-offset-lt256 : goal.returns-then-offset-lt256
returns-then-offset-lt256 c = search (tests, rules)

pub returns-then-offset-lt3072 : goal.returns-then-offset-lt3072
returns-then-offset-lt3072 c = search (tests, rules)

pub returns-then-offset-lt3328 : goal.returns-then-offset-lt3328
returns-then-offset-lt3328 c = search (tests, rules)

pub returns-then-offset-lt3472 : goal.returns-then-offset-lt3472
returns-then-offset-lt3472 c = search (tests, rules)

pub returns-then-offset-lt3536 : goal.returns-then-offset-lt3536
returns-then-offset-lt3536 c = search (tests, rules)

pub returns-else-offset-lt3536 : goal.returns-else-offset-lt3536
returns-else-offset-lt3536 c = search (tests, rules)
