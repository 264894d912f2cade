use Rattle.std.proofs.Common.{arith}
use Rattle.tz_decode.proofs.MultipleLaws.{store_exclusive}
use Rattle.tz_decode.proofs.multiples.store_exclusive.Goals as goal

-- The call that closes each goal, by name: what is tried before it finds nothing, after long.
pub returns-then-rt-eq15 : goal.returns-then-rt-eq15
returns-then-rt-eq15 c = grind (arith, store_exclusive)

pub returns-else-rt-eq15 : goal.returns-else-rt-eq15
returns-else-rt-eq15 c = grind (arith, store_exclusive)
