use Rattle.std.proofs.Common.{arith}
use Rattle.tz_decode.proofs.LoadLaws.{index_loads}
use Rattle.tz_decode.proofs.loads.index_loads.Goals as goal

-- The call that closes each goal, by name: what is tried before it finds nothing, after long.
pub returns-then-is_preload : goal.returns-then-is_preload
returns-then-is_preload c = grind (arith, index_loads)

pub returns-else-is_preload : goal.returns-else-is_preload
returns-else-is_preload c = grind (arith, index_loads)
