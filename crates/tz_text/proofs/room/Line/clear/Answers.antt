use Rattle.std.proofs.Common.{arith}
use Rattle.tz_text.proofs.PieceTexts.{no_text}
use Rattle.tz_text.proofs.room.Line.clear.Goals as goal

pub invariant_of-self : goal.invariant_of-self
invariant_of-self c = (omega arith, no_text)
