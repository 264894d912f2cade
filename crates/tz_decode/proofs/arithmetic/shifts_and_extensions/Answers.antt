use Rattle.std.proofs.Common.{arith}
use Rattle.tz_decode.proofs.ArithmeticLaws.{shifts_and_extensions}
use Rattle.tz_decode.proofs.arithmetic.shifts_and_extensions.Goals as goal

-- The call that closes each goal, by name: what is tried before it finds nothing, after long.
pub returns-then-field-ne15 : goal.returns-then-field-ne15
returns-then-field-ne15 c = grind (arith, shifts_and_extensions)

pub returns-then-rn-eq15 : goal.returns-then-rn-eq15
returns-then-rn-eq15 c = grind (arith, shifts_and_extensions)

pub returns-else-rn-eq15 : goal.returns-else-rn-eq15
returns-else-rn-eq15 c = grind (arith, shifts_and_extensions)

pub returns-then-field-ne0 : goal.returns-then-field-ne0
returns-then-field-ne0 c = grind (arith, shifts_and_extensions)

pub returns-else-field-ne0 : goal.returns-else-field-ne0
returns-else-field-ne0 c = grind (arith, shifts_and_extensions)
