use Rattle.std.proofs.Common.{arith}
use Rattle.tz_decode.proofs.BranchLaws.{registers}
use Rattle.tz_decode.proofs.branches.registers.Goals as goal

-- The call that closes each goal, by name: what is tried before it finds nothing, after long.
pub returns-then-field-ne136 : goal.returns-then-field-ne136
returns-then-field-ne136 c = grind (arith, registers)

pub returns-else-field-ne136 : goal.returns-else-field-ne136
returns-else-field-ne136 c = grind (arith, registers)

pub returns-then-field-ne128 : goal.returns-then-field-ne128
returns-then-field-ne128 c = grind (arith, registers)

pub returns-else-field-ne128 : goal.returns-else-field-ne128
returns-else-field-ne128 c = grind (arith, registers)

pub returns-then-long_field-eq62399 : goal.returns-then-long_field-eq62399
returns-then-long_field-eq62399 c = grind (arith, registers)

pub returns-else-long_field-eq62399 : goal.returns-else-long_field-eq62399
returns-else-long_field-eq62399 c = grind (arith, registers)
