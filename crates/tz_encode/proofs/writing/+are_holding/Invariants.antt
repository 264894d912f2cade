use Rattle.std.proofs.Common.{length}
use Rattle.tz_encode.proofs.writing.+are_holding.Given as goal

abbrev pub decreases-are_holding : goal.decreases-are_holding
decreases-are_holding l = length l.parts.now
