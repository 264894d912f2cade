use Rattle.std.proofs.Common.{arith}
use Rattle.tz_decode.proofs.ArithmeticLaws.{multiplications}
use Rattle.tz_decode.proofs.arithmetic.multiplications.Goals as goal

-- The call that closes each goal, by name: what is tried before it finds nothing, after long.
pub returns-then-field-ne0 : goal.returns-then-field-ne0
returns-then-field-ne0 c = grind (arith, multiplications)

pub returns-then-field-ne0-3 : goal.returns-then-field-ne0-3
returns-then-field-ne0-3 c = grind (arith, multiplications)

pub returns-then-ra-eq15 : goal.returns-then-ra-eq15
returns-then-ra-eq15 c = grind (arith, multiplications)

pub returns-else-ra-eq15 : goal.returns-else-ra-eq15
returns-else-ra-eq15 c = grind (arith, multiplications)
