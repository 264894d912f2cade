use Rattle.std.proofs.Common.{arith}
use Rattle.tz_table.proofs.RowLimits.{from_ldrsh_index_limits}
use Rattle.tz_table.proofs.narrow_limits.from_ldrsh_index.Goals as goal

-- The call that closes each goal, by name: what is tried before it finds nothing, after long.
pub returns-in-40 : goal.returns-in-40
returns-in-40 c = grind (arith, from_ldrsh_index_limits)

pub returns-in-41 : goal.returns-in-41
returns-in-41 c = grind (arith, from_ldrsh_index_limits)

pub returns-in-42 : goal.returns-in-42
returns-in-42 c = grind (arith, from_ldrsh_index_limits)

pub returns-in-43 : goal.returns-in-43
returns-in-43 c = grind (arith, from_ldrsh_index_limits)

pub returns-in-44 : goal.returns-in-44
returns-in-44 c = grind (arith, from_ldrsh_index_limits)

pub returns-in-45 : goal.returns-in-45
returns-in-45 c = grind (arith, from_ldrsh_index_limits)

pub returns-in-46 : goal.returns-in-46
returns-in-46 c = grind (arith, from_ldrsh_index_limits)

pub returns-in_default : goal.returns-in_default
returns-in_default c = grind (arith, from_ldrsh_index_limits)
