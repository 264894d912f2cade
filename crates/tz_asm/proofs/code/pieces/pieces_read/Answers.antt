use Rattle.std.proofs.Common.{arith}
use Rattle.std.proofs.lemmas.Grind.{common_steps}
use Rattle.tz_asm.specs.Pieces.{pieces_read}
use Rattle.tz_asm.proofs.code.pieces.pieces_read.Goals as goal

-- The first call that the prover tries finds nothing at these goals, after long: the one that does is named.
pub returns-in-None : goal.returns-in-None
unfolding pieces_read
returns-in-None c = grind (arith, common_steps)

pub loop-piece-preserved : goal.loop-piece-preserved
unfolding pieces_read
loop-piece-preserved c = grind (arith, common_steps)

pub returns : goal.returns
unfolding pieces_read
returns c = grind (arith, common_steps)
