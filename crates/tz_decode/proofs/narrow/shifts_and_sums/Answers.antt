use Rattle.std.proofs.Common.{arith}
use Rattle.tz_decode.proofs.NarrowLaws.{shifts_and_sums}
use Rattle.tz_decode.proofs.narrow.shifts_and_sums.Goals as goal

-- The call that closes each goal, by name: what is tried before it finds nothing, after long.
pub returns-in-0 : goal.returns-in-0
returns-in-0 c = grind (arith, shifts_and_sums)

pub returns-in-1 : goal.returns-in-1
returns-in-1 c = grind (arith, shifts_and_sums)

pub returns-in-2 : goal.returns-in-2
returns-in-2 c = grind (arith, shifts_and_sums)

pub returns-in_default : goal.returns-in_default
returns-in_default c = grind (arith, shifts_and_sums)
