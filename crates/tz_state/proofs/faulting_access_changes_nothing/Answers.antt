use Rattle.tz_state.proofs.Faults.{fault_keeps}
use Rattle.tz_state.proofs.faulting_access_changes_nothing.Goals as goal

pub returns : goal.returns
returns c = λ r a. fault_keeps r a
