use Rattle.std.proofs.Common.{arith}
use Rattle.tz_bits.proofs.Places.{places}
use Rattle.tz_bits.proofs.shifts.shift_right.Goals as goal

-- The call that closes each goal, by name: what is tried before it finds nothing, after long.
pub returns-then-amount-lt32 : goal.returns-then-amount-lt32
returns-then-amount-lt32 c = grind (arith, places)

pub returns-else-amount-lt32 : goal.returns-else-amount-lt32
returns-else-amount-lt32 c = grind (arith, places)
