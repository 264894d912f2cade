use Rattle.std.proofs.Common.{arith}
use Rattle.tz_decode.proofs.MultipleLaws.{table_branch}
use Rattle.tz_decode.proofs.multiples.table_branch.Goals as goal

-- The call that closes each goal, by name: what is tried before it finds nothing, after long.
pub returns-then-long_field-ne1920 : goal.returns-then-long_field-ne1920
returns-then-long_field-ne1920 c = grind (arith, table_branch)

pub returns-else-long_field-ne1920 : goal.returns-else-long_field-ne1920
returns-else-long_field-ne1920 c = grind (arith, table_branch)
