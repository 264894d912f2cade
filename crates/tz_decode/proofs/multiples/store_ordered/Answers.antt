use Rattle.std.proofs.Common.{arith}
use Rattle.tz_decode.proofs.MultipleLaws.{store_ordered}
use Rattle.tz_decode.proofs.multiples.store_ordered.Goals as goal

-- The call that closes each goal, by name: what is tried before it finds nothing, after long.
pub returns-then-field-ne15 : goal.returns-then-field-ne15
returns-then-field-ne15 c = grind (arith, store_ordered)

pub returns-in-4 : goal.returns-in-4
returns-in-4 c = grind (arith, store_ordered)

pub returns-in-5 : goal.returns-in-5
returns-in-5 c = grind (arith, store_ordered)

pub returns-in-8 : goal.returns-in-8
returns-in-8 c = grind (arith, store_ordered)

pub returns-in-9 : goal.returns-in-9
returns-in-9 c = grind (arith, store_ordered)

pub returns-in-10 : goal.returns-in-10
returns-in-10 c = grind (arith, store_ordered)

pub returns-in-12 : goal.returns-in-12
returns-in-12 c = grind (arith, store_ordered)

pub returns-in-13 : goal.returns-in-13
returns-in-13 c = grind (arith, store_ordered)

pub returns-in-14 : goal.returns-in-14
returns-in-14 c = grind (arith, store_ordered)

pub returns-in_default : goal.returns-in_default
returns-in_default c = grind (arith, store_ordered)
