use Rattle.std.proofs.Common.{arith}
use Rattle.tz_table.proofs.RowLimits.{from_adc_low_limits}
use Rattle.tz_table.proofs.narrow_limits.from_adc_low.Goals as goal

-- The call that closes each goal, by name: what is tried before it finds nothing, after long.
pub returns-in-16 : goal.returns-in-16
returns-in-16 c = grind (arith, from_adc_low_limits)

pub returns-in-17 : goal.returns-in-17
returns-in-17 c = grind (arith, from_adc_low_limits)

pub returns-in-18 : goal.returns-in-18
returns-in-18 c = grind (arith, from_adc_low_limits)

pub returns-in-19 : goal.returns-in-19
returns-in-19 c = grind (arith, from_adc_low_limits)

pub returns-in-20 : goal.returns-in-20
returns-in-20 c = grind (arith, from_adc_low_limits)

pub returns-in-21 : goal.returns-in-21
returns-in-21 c = grind (arith, from_adc_low_limits)

pub returns-in-22 : goal.returns-in-22
returns-in-22 c = grind (arith, from_adc_low_limits)

pub returns-in_default : goal.returns-in_default
returns-in_default c = grind (arith, from_adc_low_limits)
