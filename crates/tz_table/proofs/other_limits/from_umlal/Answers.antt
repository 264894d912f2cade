use Rattle.std.proofs.Common.{arith}
use Rattle.tz_table.proofs.WideLimits.{from_umlal_limits}
use Rattle.tz_table.proofs.other_limits.from_umlal.Goals as goal

-- The call that closes each goal, by name: what is tried before it finds nothing, after long.
pub returns-in-184 : goal.returns-in-184
returns-in-184 c = grind (arith, from_umlal_limits)

pub returns-in-185 : goal.returns-in-185
returns-in-185 c = grind (arith, from_umlal_limits)

pub returns-in-186 : goal.returns-in-186
returns-in-186 c = grind (arith, from_umlal_limits)

pub returns-in-187 : goal.returns-in-187
returns-in-187 c = grind (arith, from_umlal_limits)

pub returns-in_default : goal.returns-in_default
returns-in_default c = grind (arith, from_umlal_limits)
