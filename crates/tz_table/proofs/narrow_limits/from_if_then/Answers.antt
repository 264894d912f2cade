use Rattle.std.proofs.Common.{arith}
use Rattle.tz_table.proofs.RowLimits.{from_if_then_limits}
use Rattle.tz_table.proofs.narrow_limits.from_if_then.Goals as goal

-- The call that closes each goal, by name: what is tried before it finds nothing, after long.
pub returns-in-64 : goal.returns-in-64
returns-in-64 c = grind (arith, from_if_then_limits)

pub returns-in-65 : goal.returns-in-65
returns-in-65 c = grind (arith, from_if_then_limits)

pub returns-in-66 : goal.returns-in-66
returns-in-66 c = grind (arith, from_if_then_limits)

pub returns-in-67 : goal.returns-in-67
returns-in-67 c = grind (arith, from_if_then_limits)

pub returns-in-68 : goal.returns-in-68
returns-in-68 c = grind (arith, from_if_then_limits)

pub returns-in-69 : goal.returns-in-69
returns-in-69 c = grind (arith, from_if_then_limits)

pub returns-in-70 : goal.returns-in-70
returns-in-70 c = grind (arith, from_if_then_limits)

pub returns-in_default : goal.returns-in_default
returns-in_default c = grind (arith, from_if_then_limits)
