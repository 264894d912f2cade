use Rattle.std.proofs.Common.{arith}
use Rattle.tz_decode.proofs.BranchLaws.{conditional}
use Rattle.tz_decode.proofs.branches.conditional.Goals as goal

-- The call that closes each goal, by name: what is tried before it finds nothing, after long.
pub returns-then-cond-eq14 : goal.returns-then-cond-eq14
returns-then-cond-eq14 c = grind (arith, conditional)

pub returns-then-cond-eq15 : goal.returns-then-cond-eq15
returns-then-cond-eq15 c = grind (arith, conditional)

pub returns-else-cond-eq15 : goal.returns-else-cond-eq15
returns-else-cond-eq15 c = grind (arith, conditional)
