use Rattle.std.proofs.Common.{arith}
use Rattle.tz_table.proofs.WideLimits.{from_sub_imm_w_limits}
use Rattle.tz_table.proofs.data_limits.from_sub_imm_w.Goals as goal

-- The call that closes each goal, by name: what is tried before it finds nothing, after long.
pub returns-in-128 : goal.returns-in-128
returns-in-128 c = grind (arith, from_sub_imm_w_limits)

pub returns-in-129 : goal.returns-in-129
returns-in-129 c = grind (arith, from_sub_imm_w_limits)

pub returns-in-130 : goal.returns-in-130
returns-in-130 c = grind (arith, from_sub_imm_w_limits)

pub returns-in-131 : goal.returns-in-131
returns-in-131 c = grind (arith, from_sub_imm_w_limits)

pub returns-in-132 : goal.returns-in-132
returns-in-132 c = grind (arith, from_sub_imm_w_limits)

pub returns-in-133 : goal.returns-in-133
returns-in-133 c = grind (arith, from_sub_imm_w_limits)

pub returns-in-134 : goal.returns-in-134
returns-in-134 c = grind (arith, from_sub_imm_w_limits)

pub returns-in_default : goal.returns-in_default
returns-in_default c = grind (arith, from_sub_imm_w_limits)
