use Rattle.std.proofs.Common.{arith}
use Rattle.tz_decode.proofs.BranchLaws.{branches}
use Rattle.tz_decode.proofs.branches.branches.Goals as goal

-- The call that closes each goal, by name: what is tried before it finds nothing, after long.
pub returns-then-field-eq0-2 : goal.returns-then-field-eq0-2
returns-then-field-eq0-2 c = grind (arith, branches)

pub returns-else-field-eq0-2 : goal.returns-else-field-eq0-2
returns-else-field-eq0-2 c = grind (arith, branches)

pub returns-then-field-eq0-3 : goal.returns-then-field-eq0-3
returns-then-field-eq0-3 c = grind (arith, branches)

pub returns-else-field-eq0-3 : goal.returns-else-field-eq0-3
returns-else-field-eq0-3 c = grind (arith, branches)
