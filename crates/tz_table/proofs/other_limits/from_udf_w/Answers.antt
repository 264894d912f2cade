use Rattle.std.proofs.Common.{arith}
use Rattle.tz_table.proofs.WideLimits.{from_udf_w_limits}
use Rattle.tz_table.proofs.other_limits.from_udf_w.Goals as goal

-- The call that closes each goal, by name: what is tried before it finds nothing, after long.
pub returns-in-152 : goal.returns-in-152
returns-in-152 c = grind (arith, from_udf_w_limits)

pub returns-in-153 : goal.returns-in-153
returns-in-153 c = grind (arith, from_udf_w_limits)

pub returns-in-154 : goal.returns-in-154
returns-in-154 c = grind (arith, from_udf_w_limits)

pub returns-in-155 : goal.returns-in-155
returns-in-155 c = grind (arith, from_udf_w_limits)

pub returns-in-156 : goal.returns-in-156
returns-in-156 c = grind (arith, from_udf_w_limits)

pub returns-in-157 : goal.returns-in-157
returns-in-157 c = grind (arith, from_udf_w_limits)

pub returns-in-158 : goal.returns-in-158
returns-in-158 c = grind (arith, from_udf_w_limits)

pub returns-in_default : goal.returns-in_default
returns-in_default c = grind (arith, from_udf_w_limits)
