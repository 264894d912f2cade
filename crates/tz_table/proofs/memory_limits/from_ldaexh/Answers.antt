use Rattle.std.proofs.Common.{arith}
use Rattle.tz_table.proofs.WideLimits.{from_ldaexh_limits}
use Rattle.tz_table.proofs.memory_limits.from_ldaexh.Goals as goal

-- The call that closes each goal, by name: what is tried before it finds nothing, after long.
pub returns-in-96 : goal.returns-in-96
returns-in-96 c = grind (arith, from_ldaexh_limits)

pub returns-in-97 : goal.returns-in-97
returns-in-97 c = grind (arith, from_ldaexh_limits)

pub returns-in-98 : goal.returns-in-98
returns-in-98 c = grind (arith, from_ldaexh_limits)

pub returns-in-99 : goal.returns-in-99
returns-in-99 c = grind (arith, from_ldaexh_limits)

pub returns-in-100 : goal.returns-in-100
returns-in-100 c = grind (arith, from_ldaexh_limits)

pub returns-in-101 : goal.returns-in-101
returns-in-101 c = grind (arith, from_ldaexh_limits)

pub returns-in-102 : goal.returns-in-102
returns-in-102 c = grind (arith, from_ldaexh_limits)

pub returns-in_default : goal.returns-in_default
returns-in_default c = grind (arith, from_ldaexh_limits)
