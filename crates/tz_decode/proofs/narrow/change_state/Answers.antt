use Rattle.std.proofs.Common.{arith}
use Rattle.tz_decode.proofs.NarrowLaws.{change_state}
use Rattle.tz_decode.proofs.narrow.change_state.Goals as goal

-- The call that closes each goal, by name: what is tried before it finds nothing, after long.
pub returns-then-field-ne3 : goal.returns-then-field-ne3
returns-then-field-ne3 c = grind (arith, change_state)

pub returns-then-field-ne0 : goal.returns-then-field-ne0
returns-then-field-ne0 c = grind (arith, change_state)

pub returns-else-field-ne0 : goal.returns-else-field-ne0
returns-else-field-ne0 c = grind (arith, change_state)
