use Rattle.tz_sem.proofs.Kept.{executed_stacks}
use Rattle.tz_sem.proofs.keeps_secure_stacks.Goals as goal

pub returns : goal.returns
returns c = λ s i e. executed_stacks s i e
