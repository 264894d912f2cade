use Rattle.std.proofs.Common.{arith}
use Rattle.tz_table.proofs.RowLimits.{from_ldr_sp_limits}
use Rattle.tz_table.proofs.narrow_limits.from_ldr_sp.Goals as goal

-- The call that closes each goal, by name: what is tried before it finds nothing, after long.
pub returns-in-48 : goal.returns-in-48
returns-in-48 c = grind (arith, from_ldr_sp_limits)

pub returns-in-49 : goal.returns-in-49
returns-in-49 c = grind (arith, from_ldr_sp_limits)

pub returns-in-50 : goal.returns-in-50
returns-in-50 c = grind (arith, from_ldr_sp_limits)

pub returns-in-51 : goal.returns-in-51
returns-in-51 c = grind (arith, from_ldr_sp_limits)

pub returns-in-52 : goal.returns-in-52
returns-in-52 c = grind (arith, from_ldr_sp_limits)

pub returns-in-53 : goal.returns-in-53
returns-in-53 c = grind (arith, from_ldr_sp_limits)

pub returns-in-54 : goal.returns-in-54
returns-in-54 c = grind (arith, from_ldr_sp_limits)

pub returns-in_default : goal.returns-in_default
returns-in_default c = grind (arith, from_ldr_sp_limits)
