use Rattle.tz_undo.proofs.Backs.{are_kept}
use Rattle.tz_undo.proofs.laws.steps_are_kept.Goals as goal

pub returns : goal.returns
returns c = are_kept
