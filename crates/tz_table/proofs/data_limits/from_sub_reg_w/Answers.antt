use Rattle.std.proofs.Common.{arith}
use Rattle.tz_table.proofs.WideLimits.{from_sub_reg_w_limits}
use Rattle.tz_table.proofs.data_limits.from_sub_reg_w.Goals as goal

-- The call that closes each goal, by name: what is tried before it finds nothing, after long.
pub returns-in-112 : goal.returns-in-112
returns-in-112 c = grind (arith, from_sub_reg_w_limits)

pub returns-in-113 : goal.returns-in-113
returns-in-113 c = grind (arith, from_sub_reg_w_limits)

pub returns-in-114 : goal.returns-in-114
returns-in-114 c = grind (arith, from_sub_reg_w_limits)

pub returns-in-115 : goal.returns-in-115
returns-in-115 c = grind (arith, from_sub_reg_w_limits)

pub returns-in-116 : goal.returns-in-116
returns-in-116 c = grind (arith, from_sub_reg_w_limits)

pub returns-in-117 : goal.returns-in-117
returns-in-117 c = grind (arith, from_sub_reg_w_limits)

pub returns-in-118 : goal.returns-in-118
returns-in-118 c = grind (arith, from_sub_reg_w_limits)

pub returns-in_default : goal.returns-in_default
returns-in_default c = grind (arith, from_sub_reg_w_limits)
