use Rattle.tz_resume.proofs.Running.{runs_resume, boots_resume}
use Rattle.tz_resume.proofs.runs_resume.Goals as goal

pub returns-clause-runs : goal.returns-clause-runs
returns-clause-runs c = λ events k s i j numbered typed r. runs_resume events k s i j numbered typed r

pub returns-clause-boots : goal.returns-clause-boots
returns-clause-boots c = λ b secure nonsecure events i j typed r. boots_resume b secure nonsecure events i j typed r
