use Rattle.std.proofs.Common.{arith}
use Rattle.tz_decode.proofs.ArithmeticLaws.{extensions}
use Rattle.tz_decode.proofs.arithmetic.extensions.Goals as goal

-- The call that closes each goal, by name: what is tried before it finds nothing, after long.
pub returns-in-0 : goal.returns-in-0
returns-in-0 c = grind (arith, extensions)

pub returns-in-1 : goal.returns-in-1
returns-in-1 c = grind (arith, extensions)

pub returns-in-4 : goal.returns-in-4
returns-in-4 c = grind (arith, extensions)

pub returns-in-5 : goal.returns-in-5
returns-in-5 c = grind (arith, extensions)

pub returns-in_default : goal.returns-in_default
returns-in_default c = grind (arith, extensions)
