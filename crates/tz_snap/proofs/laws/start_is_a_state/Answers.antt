use Rattle.tz_snap.proofs.Starting.{boot_state}
use Rattle.tz_snap.proofs.laws.start_is_a_state.Goals as goal

pub returns : goal.returns
returns c = boot_state
