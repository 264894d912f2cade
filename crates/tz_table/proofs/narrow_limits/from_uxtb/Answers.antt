use Rattle.std.proofs.Common.{arith}
use Rattle.tz_table.proofs.RowLimits.{from_uxtb_limits}
use Rattle.tz_table.proofs.narrow_limits.from_uxtb.Goals as goal

-- The call that closes each goal, by name: what is tried before it finds nothing, after long.
pub returns-in-56 : goal.returns-in-56
returns-in-56 c = grind (arith, from_uxtb_limits)

pub returns-in-57 : goal.returns-in-57
returns-in-57 c = grind (arith, from_uxtb_limits)

pub returns-in-58 : goal.returns-in-58
returns-in-58 c = grind (arith, from_uxtb_limits)

pub returns-in-59 : goal.returns-in-59
returns-in-59 c = grind (arith, from_uxtb_limits)

pub returns-in-60 : goal.returns-in-60
returns-in-60 c = grind (arith, from_uxtb_limits)

pub returns-in-61 : goal.returns-in-61
returns-in-61 c = grind (arith, from_uxtb_limits)

pub returns-in-62 : goal.returns-in-62
returns-in-62 c = grind (arith, from_uxtb_limits)

pub returns-in_default : goal.returns-in_default
returns-in_default c = grind (arith, from_uxtb_limits)
