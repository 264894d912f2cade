use Rattle.std.proofs.Common.{arith}
use Rattle.tz_table.proofs.WideLimits.{from_orn_reg_w_limits}
use Rattle.tz_table.proofs.memory_limits.from_orn_reg_w.Goals as goal

-- The call that closes each goal, by name: what is tried before it finds nothing, after long.
pub returns-in-104 : goal.returns-in-104
returns-in-104 c = grind (arith, from_orn_reg_w_limits)

pub returns-in-105 : goal.returns-in-105
returns-in-105 c = grind (arith, from_orn_reg_w_limits)

pub returns-in-106 : goal.returns-in-106
returns-in-106 c = grind (arith, from_orn_reg_w_limits)

pub returns-in-107 : goal.returns-in-107
returns-in-107 c = grind (arith, from_orn_reg_w_limits)

pub returns-in-108 : goal.returns-in-108
returns-in-108 c = grind (arith, from_orn_reg_w_limits)

pub returns-in-109 : goal.returns-in-109
returns-in-109 c = grind (arith, from_orn_reg_w_limits)

pub returns-in-110 : goal.returns-in-110
returns-in-110 c = grind (arith, from_orn_reg_w_limits)

pub returns-in_default : goal.returns-in_default
returns-in_default c = grind (arith, from_orn_reg_w_limits)
