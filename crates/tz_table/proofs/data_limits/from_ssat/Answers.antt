use Rattle.std.proofs.Common.{arith}
use Rattle.tz_table.proofs.WideLimits.{from_ssat_limits}
use Rattle.tz_table.proofs.data_limits.from_ssat.Goals as goal

-- The call that closes each goal, by name: what is tried before it finds nothing, after long.
pub returns-in-136 : goal.returns-in-136
returns-in-136 c = grind (arith, from_ssat_limits)

pub returns-in-137 : goal.returns-in-137
returns-in-137 c = grind (arith, from_ssat_limits)

pub returns-in-138 : goal.returns-in-138
returns-in-138 c = grind (arith, from_ssat_limits)

pub returns-in-139 : goal.returns-in-139
returns-in-139 c = grind (arith, from_ssat_limits)

pub returns-in-140 : goal.returns-in-140
returns-in-140 c = grind (arith, from_ssat_limits)

pub returns-in-141 : goal.returns-in-141
returns-in-141 c = grind (arith, from_ssat_limits)

pub returns-in-142 : goal.returns-in-142
returns-in-142 c = grind (arith, from_ssat_limits)

pub returns-in_default : goal.returns-in_default
returns-in_default c = grind (arith, from_ssat_limits)
