use Rattle.std.proofs.Common.{arith}
use Rattle.tz_decode.proofs.NarrowLaws.{indexes}
use Rattle.tz_decode.proofs.narrow.indexes.Goals as goal

-- The call that closes each goal, by name: what is tried before it finds nothing, after long.
pub returns-in-0 : goal.returns-in-0
returns-in-0 c = grind (arith, indexes)

pub returns-in-1 : goal.returns-in-1
returns-in-1 c = grind (arith, indexes)

pub returns-in-2 : goal.returns-in-2
returns-in-2 c = grind (arith, indexes)

pub returns-in-3 : goal.returns-in-3
returns-in-3 c = grind (arith, indexes)

pub returns-in-4 : goal.returns-in-4
returns-in-4 c = grind (arith, indexes)

pub returns-in-5 : goal.returns-in-5
returns-in-5 c = grind (arith, indexes)

pub returns-in-6 : goal.returns-in-6
returns-in-6 c = grind (arith, indexes)

pub returns-in_default : goal.returns-in_default
returns-in_default c = grind (arith, indexes)
