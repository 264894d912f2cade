use Rattle.tz_twin.proofs.Moves.{from_open, to_open}
use Rattle.tz_twin.proofs.nonsecure_moves.Goals as goal

pub returns : goal.returns
returns c = λ b channel moves. record { read = from_open b channel moves; written = to_open b channel moves }
