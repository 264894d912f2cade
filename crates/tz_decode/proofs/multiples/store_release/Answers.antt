use Rattle.std.proofs.Common.{arith}
use Rattle.tz_decode.proofs.MultipleLaws.{store_release}
use Rattle.tz_decode.proofs.multiples.store_release.Goals as goal

-- The call that closes each goal, by name: what is tried before it finds nothing, after long.
pub returns-then-field-ne15 : goal.returns-then-field-ne15
returns-then-field-ne15 c = grind (arith, store_release)

pub returns-in-0 : goal.returns-in-0
returns-in-0 c = grind (arith, store_release)

pub returns-in-1 : goal.returns-in-1
returns-in-1 c = grind (arith, store_release)

pub returns-in_default : goal.returns-in_default
returns-in_default c = grind (arith, store_release)
