use Rattle.std.proofs.Common.{arith}
use Rattle.tz_decode.proofs.MultipleLaws.{test_target}
use Rattle.tz_decode.proofs.multiples.test_target.Goals as goal

-- The call that closes each goal, by name: what is tried before it finds nothing, after long.
pub returns-then-field-ne0 : goal.returns-then-field-ne0
returns-then-field-ne0 c = grind (arith, test_target)

pub returns-else-field-ne0 : goal.returns-else-field-ne0
returns-else-field-ne0 c = grind (arith, test_target)
