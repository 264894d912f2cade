use Rattle.std.proofs.Common.{arith}
use Rattle.tz_decode.proofs.NarrowLaws.{pop}
use Rattle.tz_decode.proofs.narrow.pop.Goals as goal

-- The call that closes each goal, by name: what is tried before it finds nothing, after long.
pub returns : goal.returns
returns c = grind (arith, pop)
