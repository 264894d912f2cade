use Rattle.tz_twin.proofs.Unharmed.{leaves_secure, enters_secure}
use Rattle.tz_twin.proofs.integrity.Goals as goal

pub returns-clause-leaves : goal.returns-clause-leaves
returns-clause-leaves c = λ s events is untouched. leaves_secure s events is untouched

pub returns-clause-enters : goal.returns-clause-enters
returns-clause-enters c = λ s events is secure unlocked. enters_secure s events is secure unlocked
