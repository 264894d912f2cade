use Rattle.std.proofs.Common.{arith}
use Rattle.tz_table.proofs.RowLimits.{from_mul_low_limits}
use Rattle.tz_table.proofs.narrow_limits.from_mul_low.Goals as goal

-- The call that closes each goal, by name: what is tried before it finds nothing, after long.
pub returns-in-24 : goal.returns-in-24
returns-in-24 c = grind (arith, from_mul_low_limits)

pub returns-in-25 : goal.returns-in-25
returns-in-25 c = grind (arith, from_mul_low_limits)

pub returns-in-26 : goal.returns-in-26
returns-in-26 c = grind (arith, from_mul_low_limits)

pub returns-in-27 : goal.returns-in-27
returns-in-27 c = grind (arith, from_mul_low_limits)

pub returns-in-28 : goal.returns-in-28
returns-in-28 c = grind (arith, from_mul_low_limits)

pub returns-in-29 : goal.returns-in-29
returns-in-29 c = grind (arith, from_mul_low_limits)

pub returns-in-30 : goal.returns-in-30
returns-in-30 c = grind (arith, from_mul_low_limits)

pub returns-in_default : goal.returns-in_default
returns-in_default c = grind (arith, from_mul_low_limits)
