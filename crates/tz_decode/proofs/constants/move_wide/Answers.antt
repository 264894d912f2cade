use Rattle.std.proofs.Common.{arith}
use Rattle.tz_decode.proofs.ConstantLaws.{move_wide}
use Rattle.tz_decode.proofs.constants.move_wide.Goals as goal

-- The call that closes each goal, by name: what is tried before it finds nothing, after long.
pub returns : goal.returns
returns c = grind (arith, move_wide)
