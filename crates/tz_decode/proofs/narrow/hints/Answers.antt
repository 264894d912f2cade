use Rattle.std.proofs.Common.{arith}
use Rattle.tz_decode.proofs.NarrowLaws.{hints}
use Rattle.tz_decode.proofs.narrow.hints.Goals as goal

-- The call that closes each goal, by name: what is tried before it finds nothing, after long.
pub returns-then-mask-eq0 : goal.returns-then-mask-eq0
returns-then-mask-eq0 c = grind (arith, hints)

pub returns-else-mask-eq0 : goal.returns-else-mask-eq0
returns-else-mask-eq0 c = grind (arith, hints)
