use Rattle.std.proofs.Common.{arith}
use Rattle.tz_table.proofs.WideLimits.{from_stlexh_limits}
use Rattle.tz_table.proofs.memory_limits.from_stlexh.Goals as goal

-- The call that closes each goal, by name: what is tried before it finds nothing, after long.
pub returns-in-88 : goal.returns-in-88
returns-in-88 c = grind (arith, from_stlexh_limits)

pub returns-in-89 : goal.returns-in-89
returns-in-89 c = grind (arith, from_stlexh_limits)

pub returns-in-90 : goal.returns-in-90
returns-in-90 c = grind (arith, from_stlexh_limits)

pub returns-in-91 : goal.returns-in-91
returns-in-91 c = grind (arith, from_stlexh_limits)

pub returns-in-92 : goal.returns-in-92
returns-in-92 c = grind (arith, from_stlexh_limits)

pub returns-in-93 : goal.returns-in-93
returns-in-93 c = grind (arith, from_stlexh_limits)

pub returns-in-94 : goal.returns-in-94
returns-in-94 c = grind (arith, from_stlexh_limits)

pub returns-in_default : goal.returns-in_default
returns-in_default c = grind (arith, from_stlexh_limits)
