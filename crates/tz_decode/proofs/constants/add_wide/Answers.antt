use Rattle.std.proofs.Common.{arith}
use Rattle.tz_decode.proofs.ConstantLaws.{add_wide}
use Rattle.tz_decode.proofs.constants.add_wide.Goals as goal

-- The call that closes each goal, by name: what is tried before it finds nothing, after long.
pub returns-then-rn-eq15 : goal.returns-then-rn-eq15
returns-then-rn-eq15 c = grind (arith, add_wide)

pub returns-else-rn-eq15 : goal.returns-else-rn-eq15
returns-else-rn-eq15 c = grind (arith, add_wide)
