use Rattle.std.proofs.Common.{arith}
use Rattle.tz_decode.proofs.NarrowLaws.{extensions}
use Rattle.tz_decode.proofs.narrow.extensions.Goals as goal

-- The call that closes each goal, by name: what is tried before it finds nothing, after long.
pub returns : goal.returns
returns c = grind (arith, extensions)
