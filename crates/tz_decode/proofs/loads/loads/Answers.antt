use Rattle.std.proofs.Common.{arith}
use Rattle.tz_decode.proofs.LoadLaws.{loads}
use Rattle.tz_decode.proofs.loads.loads.Goals as goal

-- The call that closes each goal, by name: what is tried before it finds nothing, after long.
pub returns-then-is_preload : goal.returns-then-is_preload
returns-then-is_preload c = grind (arith, loads)

pub returns-else-is_preload : goal.returns-else-is_preload
returns-else-is_preload c = grind (arith, loads)

pub returns-then-field-eq1-2 : goal.returns-then-field-eq1-2
returns-then-field-eq1-2 c = grind (arith, loads)

pub returns-then-field-ne0 : goal.returns-then-field-ne0
returns-then-field-ne0 c = grind (arith, loads)

pub returns-else-field-ne0 : goal.returns-else-field-ne0
returns-else-field-ne0 c = grind (arith, loads)
