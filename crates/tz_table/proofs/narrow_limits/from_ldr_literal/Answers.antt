use Rattle.std.proofs.Common.{arith}
use Rattle.tz_table.proofs.RowLimits.{from_ldr_literal_limits}
use Rattle.tz_table.proofs.narrow_limits.from_ldr_literal.Goals as goal

-- The call that closes each goal, by name: what is tried before it finds nothing, after long.
pub returns-in-32 : goal.returns-in-32
returns-in-32 c = grind (arith, from_ldr_literal_limits)

pub returns-in-33 : goal.returns-in-33
returns-in-33 c = grind (arith, from_ldr_literal_limits)

pub returns-in-34 : goal.returns-in-34
returns-in-34 c = grind (arith, from_ldr_literal_limits)

pub returns-in-35 : goal.returns-in-35
returns-in-35 c = grind (arith, from_ldr_literal_limits)

pub returns-in-36 : goal.returns-in-36
returns-in-36 c = grind (arith, from_ldr_literal_limits)

pub returns-in-37 : goal.returns-in-37
returns-in-37 c = grind (arith, from_ldr_literal_limits)

pub returns-in-38 : goal.returns-in-38
returns-in-38 c = grind (arith, from_ldr_literal_limits)

pub returns-in_default : goal.returns-in_default
returns-in_default c = grind (arith, from_ldr_literal_limits)
