use Rattle.std.proofs.Common.{arith}
use Rattle.tz_decode.proofs.MultipleLaws.{store_pair}
use Rattle.tz_decode.proofs.multiples.store_pair.Goals as goal

-- The call that closes each goal, by name: what is tried before it finds nothing, after long.
pub returns-then-rn-eq15 : goal.returns-then-rn-eq15
returns-then-rn-eq15 c = grind (arith, store_pair)

pub returns-else-rn-eq15 : goal.returns-else-rn-eq15
returns-else-rn-eq15 c = grind (arith, store_pair)
