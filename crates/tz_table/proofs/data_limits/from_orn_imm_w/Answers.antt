use Rattle.std.proofs.Common.{arith}
use Rattle.tz_table.proofs.WideLimits.{from_orn_imm_w_limits}
use Rattle.tz_table.proofs.data_limits.from_orn_imm_w.Goals as goal

-- The call that closes each goal, by name: what is tried before it finds nothing, after long.
pub returns-in-120 : goal.returns-in-120
returns-in-120 c = grind (arith, from_orn_imm_w_limits)

pub returns-in-121 : goal.returns-in-121
returns-in-121 c = grind (arith, from_orn_imm_w_limits)

pub returns-in-122 : goal.returns-in-122
returns-in-122 c = grind (arith, from_orn_imm_w_limits)

pub returns-in-123 : goal.returns-in-123
returns-in-123 c = grind (arith, from_orn_imm_w_limits)

pub returns-in-124 : goal.returns-in-124
returns-in-124 c = grind (arith, from_orn_imm_w_limits)

pub returns-in-125 : goal.returns-in-125
returns-in-125 c = grind (arith, from_orn_imm_w_limits)

pub returns-in-126 : goal.returns-in-126
returns-in-126 c = grind (arith, from_orn_imm_w_limits)

pub returns-in_default : goal.returns-in_default
returns-in_default c = grind (arith, from_orn_imm_w_limits)
