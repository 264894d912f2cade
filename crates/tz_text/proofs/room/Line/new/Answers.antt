use Rattle.std.proofs.Common.{arith}
use Rattle.tz_text.proofs.PieceTexts.{no_text}
use Rattle.tz_text.proofs.room.Line.new.Goals as goal

pub invariant_of-result : goal.invariant_of-result
invariant_of-result c = (omega arith, no_text)
