use Rattle.std.proofs.Common.{arith}
use Rattle.std.proofs.lemmas.Grind.{common_steps}
use Rattle.tz_syntax.specs.Pieces.{pieces_text}
use Rattle.tz_syntax.proofs.pieces.push_pieces.Goals as goal

-- The first call that the prover tries finds nothing at these goals, after long: the one that does is named.
pub push_piece-requires : goal.push_piece-requires
unfolding pieces_text
push_piece-requires g c = grind (arith, common_steps)

pub loop-piece-preserved : goal.loop-piece-preserved
unfolding pieces_text
loop-piece-preserved g c = grind (arith, common_steps)

pub returns-clause-bytes : goal.returns-clause-bytes
unfolding pieces_text
returns-clause-bytes g c = grind (arith, common_steps)
