use Rattle.std.proofs.Common.{arith}
use Rattle.tz_decode.proofs.ConstantLaws.{plain_constants}
use Rattle.tz_decode.proofs.constants.plain_constants.Goals as goal

-- The call that closes each goal, by name: what is tried before it finds nothing, after long.
pub returns-then-field-eq1 : goal.returns-then-field-eq1
returns-then-field-eq1 c = grind (arith, plain_constants)

pub returns-in-0 : goal.returns-in-0
returns-in-0 c = grind (arith, plain_constants)

pub returns-in-4 : goal.returns-in-4
returns-in-4 c = grind (arith, plain_constants)

pub returns-in-10 : goal.returns-in-10
returns-in-10 c = grind (arith, plain_constants)

pub returns-in-12 : goal.returns-in-12
returns-in-12 c = grind (arith, plain_constants)

pub returns-in_default : goal.returns-in_default
returns-in_default c = grind (arith, plain_constants)
