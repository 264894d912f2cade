use Rattle.std.proofs.Common.{arith}
use Rattle.tz_table.proofs.WideLimits.{from_revsh_w_limits}
use Rattle.tz_table.proofs.other_limits.from_revsh_w.Goals as goal

-- The call that closes each goal, by name: what is tried before it finds nothing, after long.
pub returns-in-176 : goal.returns-in-176
returns-in-176 c = grind (arith, from_revsh_w_limits)

pub returns-in-177 : goal.returns-in-177
returns-in-177 c = grind (arith, from_revsh_w_limits)

pub returns-in-178 : goal.returns-in-178
returns-in-178 c = grind (arith, from_revsh_w_limits)

pub returns-in-179 : goal.returns-in-179
returns-in-179 c = grind (arith, from_revsh_w_limits)

pub returns-in-180 : goal.returns-in-180
returns-in-180 c = grind (arith, from_revsh_w_limits)

pub returns-in-181 : goal.returns-in-181
returns-in-181 c = grind (arith, from_revsh_w_limits)

pub returns-in-182 : goal.returns-in-182
returns-in-182 c = grind (arith, from_revsh_w_limits)

pub returns-in_default : goal.returns-in_default
returns-in_default c = grind (arith, from_revsh_w_limits)
