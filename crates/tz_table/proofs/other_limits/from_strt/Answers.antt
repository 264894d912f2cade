use Rattle.std.proofs.Common.{arith}
use Rattle.tz_table.proofs.WideLimits.{from_strt_limits}
use Rattle.tz_table.proofs.other_limits.from_strt.Goals as goal

-- The call that closes each goal, by name: what is tried before it finds nothing, after long.
pub returns-in-160 : goal.returns-in-160
returns-in-160 c = grind (arith, from_strt_limits)

pub returns-in-161 : goal.returns-in-161
returns-in-161 c = grind (arith, from_strt_limits)

pub returns-in-162 : goal.returns-in-162
returns-in-162 c = grind (arith, from_strt_limits)

pub returns-in-163 : goal.returns-in-163
returns-in-163 c = grind (arith, from_strt_limits)

pub returns-in-164 : goal.returns-in-164
returns-in-164 c = grind (arith, from_strt_limits)

pub returns-in-165 : goal.returns-in-165
returns-in-165 c = grind (arith, from_strt_limits)

pub returns-in-166 : goal.returns-in-166
returns-in-166 c = grind (arith, from_strt_limits)

pub returns-in_default : goal.returns-in_default
returns-in_default c = grind (arith, from_strt_limits)
