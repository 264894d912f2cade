use Rattle.std.proofs.Common.{arith}
use Rattle.tz_decode.proofs.LoadLaws.{stores}
use Rattle.tz_decode.proofs.loads.stores.Goals as goal

-- The call that closes each goal, by name: what is tried before it finds nothing, after long.
pub returns-then-field-eq15 : goal.returns-then-field-eq15
returns-then-field-eq15 c = grind (arith, stores)

pub returns-then-field-eq1 : goal.returns-then-field-eq1
returns-then-field-eq1 c = grind (arith, stores)

pub returns-then-field-eq1-2 : goal.returns-then-field-eq1-2
returns-then-field-eq1-2 c = grind (arith, stores)

pub returns-then-field-ne0 : goal.returns-then-field-ne0
returns-then-field-ne0 c = grind (arith, stores)

pub returns-else-field-ne0 : goal.returns-else-field-ne0
returns-else-field-ne0 c = grind (arith, stores)
