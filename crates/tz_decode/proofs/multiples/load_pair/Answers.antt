use Rattle.std.proofs.Common.{arith}
use Rattle.tz_decode.proofs.MultipleLaws.{load_pair}
use Rattle.tz_decode.proofs.multiples.load_pair.Goals as goal

-- The call that closes each goal, by name: what is tried before it finds nothing, after long.
pub returns-then-rn-ne15 : goal.returns-then-rn-ne15
returns-then-rn-ne15 c = grind (arith, load_pair)

pub returns-then-back-eq1 : goal.returns-then-back-eq1
returns-then-back-eq1 c = grind (arith, load_pair)

pub returns-else-back-eq1 : goal.returns-else-back-eq1
returns-else-back-eq1 c = grind (arith, load_pair)
