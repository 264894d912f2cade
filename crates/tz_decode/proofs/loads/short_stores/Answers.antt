use Rattle.std.proofs.Common.{arith}
use Rattle.tz_decode.proofs.LoadLaws.{short_stores}
use Rattle.tz_decode.proofs.loads.short_stores.Goals as goal

-- The call that closes each goal, by name: what is tried before it finds nothing, after long.
pub returns-then-field-eq1 : goal.returns-then-field-eq1
returns-then-field-eq1 c = grind (arith, short_stores)

pub returns-in-2 : goal.returns-in-2
returns-in-2 c = grind (arith, short_stores)

pub returns-in-3 : goal.returns-in-3
returns-in-3 c = grind (arith, short_stores)

pub returns-in_default : goal.returns-in_default
returns-in_default c = grind (arith, short_stores)
