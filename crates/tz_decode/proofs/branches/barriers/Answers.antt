use Rattle.std.proofs.Common.{arith}
use Rattle.tz_decode.proofs.BranchLaws.{barrier_codes}
use Rattle.tz_decode.proofs.branches.barriers.Goals as goal

-- The call that closes each goal, by name: what is tried before it finds nothing, after long.
pub returns-then-field-ne143 : goal.returns-then-field-ne143
returns-then-field-ne143 c = grind (arith, barrier_codes)

pub returns-in-2 : goal.returns-in-2
returns-in-2 c = grind (arith, barrier_codes)

pub returns-in-4 : goal.returns-in-4
returns-in-4 c = grind (arith, barrier_codes)

pub returns-in-5 : goal.returns-in-5
returns-in-5 c = grind (arith, barrier_codes)

pub returns-in-6 : goal.returns-in-6
returns-in-6 c = grind (arith, barrier_codes)

pub returns-in_default : goal.returns-in_default
returns-in_default c = grind (arith, barrier_codes)
