use Rattle.std.proofs.Common.{arith}
use Rattle.tz_decode.proofs.NarrowLaws.{exchanges}
use Rattle.tz_decode.proofs.narrow.exchanges.Goals as goal

-- The call that closes each goal, by name: what is tried before it finds nothing, after long.
pub returns-then-field-ne0 : goal.returns-then-field-ne0
returns-then-field-ne0 c = grind (arith, exchanges)

pub returns-then-field-eq0 : goal.returns-then-field-eq0
returns-then-field-eq0 c = grind (arith, exchanges)

pub returns-else-field-eq0 : goal.returns-else-field-eq0
returns-else-field-eq0 c = grind (arith, exchanges)
