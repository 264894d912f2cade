use Rattle.std.proofs.Common.{arith}
use Rattle.tz_decode.proofs.ArithmeticLaws.{reversals}
use Rattle.tz_decode.proofs.arithmetic.reversals.Goals as goal

-- The call that closes each goal, by name: what is tried before it finds nothing, after long.
pub returns-then-field-ne15 : goal.returns-then-field-ne15
returns-then-field-ne15 c = grind (arith, reversals)

pub returns-in-1 : goal.returns-in-1
returns-in-1 c = grind (arith, reversals)

pub returns-then-field-ne8 : goal.returns-then-field-ne8
returns-then-field-ne8 c = grind (arith, reversals)

pub returns-else-field-ne8 : goal.returns-else-field-ne8
returns-else-field-ne8 c = grind (arith, reversals)

pub returns-in_default : goal.returns-in_default
returns-in_default c = grind (arith, reversals)
