use Rattle.tz_twin.proofs.TwoRuns.{isolated}
use Rattle.tz_twin.proofs.isolation.Goals as goal

pub returns : goal.returns
returns c = λ b secure other nonsecure events n agree. isolated b secure other nonsecure events n agree
