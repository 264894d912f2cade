use Rattle.std.proofs.Common.{arith}
use Rattle.tz_decode.proofs.BranchLaws.{hints}
use Rattle.tz_decode.proofs.branches.hints.Goals as goal

-- The call that closes each goal, by name: what is tried before it finds nothing, after long.
pub returns-then-field-ne8 : goal.returns-then-field-ne8
returns-then-field-ne8 c = grind (arith, hints)

pub returns-else-field-ne8 : goal.returns-else-field-ne8
returns-else-field-ne8 c = grind (arith, hints)

pub returns-then-field-ne10 : goal.returns-then-field-ne10
returns-then-field-ne10 c = grind (arith, hints)

pub returns-else-field-ne10 : goal.returns-else-field-ne10
returns-else-field-ne10 c = grind (arith, hints)

pub returns-else-long_field-eq3967 : goal.returns-else-long_field-eq3967
returns-else-long_field-eq3967 c = grind (arith, hints)
