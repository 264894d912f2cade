use Rattle.tz_twin.proofs.Elsewhere.{writes_told}
use Rattle.tz_twin.proofs.Moved.{moves_told}
use Rattle.tz_twin.proofs.writing.Goals as goal

pub returns-clause-moves : goal.returns-clause-moves
returns-clause-moves c = λ s. moves_told s

pub returns-clause-writes : goal.returns-clause-writes
returns-clause-writes c = λ s events. writes_told s events
