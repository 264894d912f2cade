use Rattle.std.proofs.Common.{arith}
use Rattle.tz_decode.proofs.ArithmeticLaws.{arithmetic}
use Rattle.tz_decode.proofs.arithmetic.arithmetic.Goals as goal

-- The call that closes each goal, by name: what is tried before it finds nothing, after long.
pub returns-in-0 : goal.returns-in-0
returns-in-0 c = grind (arith, arithmetic)

pub returns-in-1 : goal.returns-in-1
returns-in-1 c = grind (arith, arithmetic)

pub returns-in-2 : goal.returns-in-2
returns-in-2 c = grind (arith, arithmetic)

pub returns-then-field-eq0 : goal.returns-then-field-eq0
returns-then-field-eq0 c = grind (arith, arithmetic)

pub returns-else-field-eq0 : goal.returns-else-field-eq0
returns-else-field-eq0 c = grind (arith, arithmetic)
