use Rattle.std.proofs.Common.{arith}
use Rattle.tz_bits.proofs.Places.{places}
use Rattle.tz_bits.proofs.shifts.rotate.Goals as goal

-- The call that closes each goal, by name: what is tried before it finds nothing, after long.
pub returns-then-places-eq0 : goal.returns-then-places-eq0
returns-then-places-eq0 c = grind (arith, places)

pub returns-else-places-eq0 : goal.returns-else-places-eq0
returns-else-places-eq0 c = grind (arith, places)
