use Rattle.std.proofs.Common.{arith}
use Rattle.tz_bits.proofs.Places.{places}
use Rattle.tz_bits.proofs.shifts.right_carry.Goals as goal

-- The call that closes each goal, by name: what is tried before it finds nothing, after long.
pub returns-then-amount-le32 : goal.returns-then-amount-le32
returns-then-amount-le32 c = grind (arith, places)

pub returns-else-amount-le32 : goal.returns-else-amount-le32
returns-else-amount-le32 c = grind (arith, places)
