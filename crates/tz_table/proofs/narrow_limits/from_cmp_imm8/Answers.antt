use Rattle.std.proofs.Common.{arith}
use Rattle.tz_table.proofs.RowLimits.{from_cmp_imm8_limits}
use Rattle.tz_table.proofs.narrow_limits.from_cmp_imm8.Goals as goal

-- The call that closes each goal, by name: what is tried before it finds nothing, after long.
pub returns-in-8 : goal.returns-in-8
returns-in-8 c = grind (arith, from_cmp_imm8_limits)

pub returns-in-9 : goal.returns-in-9
returns-in-9 c = grind (arith, from_cmp_imm8_limits)

pub returns-in-10 : goal.returns-in-10
returns-in-10 c = grind (arith, from_cmp_imm8_limits)

pub returns-in-11 : goal.returns-in-11
returns-in-11 c = grind (arith, from_cmp_imm8_limits)

pub returns-in-12 : goal.returns-in-12
returns-in-12 c = grind (arith, from_cmp_imm8_limits)

pub returns-in-13 : goal.returns-in-13
returns-in-13 c = grind (arith, from_cmp_imm8_limits)

pub returns-in-14 : goal.returns-in-14
returns-in-14 c = grind (arith, from_cmp_imm8_limits)

pub returns-in_default : goal.returns-in_default
returns-in_default c = grind (arith, from_cmp_imm8_limits)
