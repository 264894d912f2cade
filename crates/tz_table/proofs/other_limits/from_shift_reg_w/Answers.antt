use Rattle.std.proofs.Common.{arith}
use Rattle.tz_table.proofs.WideLimits.{from_shift_reg_w_limits}
use Rattle.tz_table.proofs.other_limits.from_shift_reg_w.Goals as goal

-- The call that closes each goal, by name: what is tried before it finds nothing, after long.
pub returns-in-168 : goal.returns-in-168
returns-in-168 c = grind (arith, from_shift_reg_w_limits)

pub returns-in-169 : goal.returns-in-169
returns-in-169 c = grind (arith, from_shift_reg_w_limits)

pub returns-in-170 : goal.returns-in-170
returns-in-170 c = grind (arith, from_shift_reg_w_limits)

pub returns-in-171 : goal.returns-in-171
returns-in-171 c = grind (arith, from_shift_reg_w_limits)

pub returns-in-172 : goal.returns-in-172
returns-in-172 c = grind (arith, from_shift_reg_w_limits)

pub returns-in-173 : goal.returns-in-173
returns-in-173 c = grind (arith, from_shift_reg_w_limits)

pub returns-in-174 : goal.returns-in-174
returns-in-174 c = grind (arith, from_shift_reg_w_limits)

pub returns-in_default : goal.returns-in_default
returns-in_default c = grind (arith, from_shift_reg_w_limits)
