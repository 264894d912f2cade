use Rattle.std.proofs.Common.{arith}
use Rattle.tz_decode.proofs.NarrowLaws.{conditional}
use Rattle.tz_decode.proofs.narrow.conditional.Goals as goal

-- The call that closes each goal, by name: what is tried before it finds nothing, after long.
pub returns-in-14 : goal.returns-in-14
returns-in-14 c = grind (arith, conditional)

pub returns-in-15 : goal.returns-in-15
returns-in-15 c = grind (arith, conditional)

pub returns-in_default : goal.returns-in_default
returns-in_default c = grind (arith, conditional)
