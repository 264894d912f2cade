use Rattle.std.proofs.Common.{arith}
use Rattle.tz_decode.proofs.NarrowLaws.{narrow}
use Rattle.tz_decode.proofs.narrow.narrow.Goals as goal

-- The call that closes each goal, by name: what is tried before it finds nothing, after long.
pub returns-in-0-field : goal.returns-in-0-field
returns-in-0-field c = grind (arith, narrow)

pub returns-in-1 : goal.returns-in-1
returns-in-1 c = grind (arith, narrow)

pub returns-in_default-field : goal.returns-in_default-field
returns-in_default-field c = grind (arith, narrow)

pub returns-in-5 : goal.returns-in-5
returns-in-5 c = grind (arith, narrow)

pub returns-in-11 : goal.returns-in-11
returns-in-11 c = grind (arith, narrow)

pub returns-in-12 : goal.returns-in-12
returns-in-12 c = grind (arith, narrow)

pub returns-in-13 : goal.returns-in-13
returns-in-13 c = grind (arith, narrow)

pub returns-in-14 : goal.returns-in-14
returns-in-14 c = grind (arith, narrow)

pub returns-in-0 : goal.returns-in-0
returns-in-0 c = grind (arith, narrow)

pub returns-in-2 : goal.returns-in-2
returns-in-2 c = grind (arith, narrow)

pub returns-in_default : goal.returns-in_default
returns-in_default c = grind (arith, narrow)
