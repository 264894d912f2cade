use Rattle.std.proofs.Common.{arith}
use Rattle.tz_table.proofs.WideLimits.{from_tt_limits}
use Rattle.tz_table.proofs.memory_limits.from_tt.Goals as goal

-- The call that closes each goal, by name: what is tried before it finds nothing, after long.
pub returns-in-80 : goal.returns-in-80
returns-in-80 c = grind (arith, from_tt_limits)

pub returns-in-81 : goal.returns-in-81
returns-in-81 c = grind (arith, from_tt_limits)

pub returns-in-82 : goal.returns-in-82
returns-in-82 c = grind (arith, from_tt_limits)

pub returns-in-83 : goal.returns-in-83
returns-in-83 c = grind (arith, from_tt_limits)

pub returns-in-84 : goal.returns-in-84
returns-in-84 c = grind (arith, from_tt_limits)

pub returns-in-85 : goal.returns-in-85
returns-in-85 c = grind (arith, from_tt_limits)

pub returns-in-86 : goal.returns-in-86
returns-in-86 c = grind (arith, from_tt_limits)

pub returns-in_default : goal.returns-in_default
returns-in_default c = grind (arith, from_tt_limits)
