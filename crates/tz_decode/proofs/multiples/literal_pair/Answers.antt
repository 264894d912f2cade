use Rattle.std.proofs.Common.{arith}
use Rattle.tz_decode.proofs.MultipleLaws.{literal_pair}
use Rattle.tz_decode.proofs.multiples.literal_pair.Goals as goal

-- The call that closes each goal, by name: what is tried before it finds nothing, after long.
pub returns : goal.returns
returns c = grind (arith, literal_pair)
