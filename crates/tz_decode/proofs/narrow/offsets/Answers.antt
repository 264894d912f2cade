use Rattle.std.proofs.Common.{arith}
use Rattle.tz_decode.proofs.NarrowLaws.{offsets}
use Rattle.tz_decode.proofs.narrow.offsets.Goals as goal

-- The call that closes each goal, by name: what is tried before it finds nothing, after long.
pub returns-in-12 : goal.returns-in-12
returns-in-12 c = grind (arith, offsets)

pub returns-in-13 : goal.returns-in-13
returns-in-13 c = grind (arith, offsets)

pub returns-in-14 : goal.returns-in-14
returns-in-14 c = grind (arith, offsets)

pub returns-in-15 : goal.returns-in-15
returns-in-15 c = grind (arith, offsets)

pub returns-in-16 : goal.returns-in-16
returns-in-16 c = grind (arith, offsets)

pub returns-in-17 : goal.returns-in-17
returns-in-17 c = grind (arith, offsets)

pub returns-in-18 : goal.returns-in-18
returns-in-18 c = grind (arith, offsets)

pub returns-in-19 : goal.returns-in-19
returns-in-19 c = grind (arith, offsets)

pub returns-in-20 : goal.returns-in-20
returns-in-20 c = grind (arith, offsets)

pub returns-in_default : goal.returns-in_default
returns-in_default c = grind (arith, offsets)
