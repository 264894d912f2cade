use Rattle.tz_undo.proofs.Backs.{goes_back}
use Rattle.tz_undo.proofs.laws.steps_go_back.Goals as goal

pub returns : goal.returns
returns c = goes_back
