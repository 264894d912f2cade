use Rattle.tz_frames.specs.Machine.{framed}
use Rattle.tz_excret.proofs.Bound.{enough}
use Rattle.tz_excret.proofs.choices_are_enough.Goals as goal

pub returns : goal.returns
returns c = λ profile w n placed least. enough framed profile w n placed least
