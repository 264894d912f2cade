use Rattle.std.proofs.Common.{arith}
use Rattle.tz_bits.proofs.Masks.{low_mask}
use Rattle.tz_bits.proofs.fields.bit_field.Goals as goal

-- The call that closes each goal, by name: what is tried before it finds nothing, after long.
pub returns-then-width-eq0 : goal.returns-then-width-eq0
returns-then-width-eq0 c = grind (arith, low_mask)

pub returns-else-width-eq0 : goal.returns-else-width-eq0
returns-else-width-eq0 c = grind (arith, low_mask)
