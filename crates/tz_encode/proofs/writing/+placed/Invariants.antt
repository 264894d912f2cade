use Rattle.std.proofs.Common.{length}
use Rattle.tz_encode.proofs.writing.+placed.Given as goal

abbrev pub decreases-placed : goal.decreases-placed
decreases-placed l = length l.parts.now
