use Rattle.std.proofs.Common.{arith}
use Rattle.tz_table.proofs.Numbers.{one_left}
use Rattle.tz_table.proofs.parts.long_field.Goals as goal

-- The call that closes each goal, by name: what is tried before it finds nothing, after long.
pub returns : goal.returns
returns c = grind (arith, one_left)
