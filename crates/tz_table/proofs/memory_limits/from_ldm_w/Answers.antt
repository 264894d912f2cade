use Rattle.std.proofs.Common.{arith}
use Rattle.tz_table.proofs.WideLimits.{from_ldm_w_limits}
use Rattle.tz_table.proofs.memory_limits.from_ldm_w.Goals as goal

-- The call that closes each goal, by name: what is tried before it finds nothing, after long.
pub returns-in-72 : goal.returns-in-72
returns-in-72 c = grind (arith, from_ldm_w_limits)

pub returns-in-73 : goal.returns-in-73
returns-in-73 c = grind (arith, from_ldm_w_limits)

pub returns-in-74 : goal.returns-in-74
returns-in-74 c = grind (arith, from_ldm_w_limits)

pub returns-in-75 : goal.returns-in-75
returns-in-75 c = grind (arith, from_ldm_w_limits)

pub returns-in-76 : goal.returns-in-76
returns-in-76 c = grind (arith, from_ldm_w_limits)

pub returns-in-77 : goal.returns-in-77
returns-in-77 c = grind (arith, from_ldm_w_limits)

pub returns-in-78 : goal.returns-in-78
returns-in-78 c = grind (arith, from_ldm_w_limits)

pub returns-in_default : goal.returns-in_default
returns-in_default c = grind (arith, from_ldm_w_limits)
