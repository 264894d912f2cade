use Rattle.std.proofs.Common.{arith}
use Rattle.tz_table.proofs.WideLimits.{from_bl_limits}
use Rattle.tz_table.proofs.other_limits.from_bl.Goals as goal

-- The call that closes each goal, by name: what is tried before it finds nothing, after long.
pub returns-in-144 : goal.returns-in-144
returns-in-144 c = grind (arith, from_bl_limits)

pub returns-in-145 : goal.returns-in-145
returns-in-145 c = grind (arith, from_bl_limits)

pub returns-in-146 : goal.returns-in-146
returns-in-146 c = grind (arith, from_bl_limits)

pub returns-in-147 : goal.returns-in-147
returns-in-147 c = grind (arith, from_bl_limits)

pub returns-in-148 : goal.returns-in-148
returns-in-148 c = grind (arith, from_bl_limits)

pub returns-in-149 : goal.returns-in-149
returns-in-149 c = grind (arith, from_bl_limits)

pub returns-in-150 : goal.returns-in-150
returns-in-150 c = grind (arith, from_bl_limits)

pub returns-in_default : goal.returns-in_default
returns-in_default c = grind (arith, from_bl_limits)
