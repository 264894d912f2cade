use Rattle.tz_resume.proofs.Steps.{steps_resume}
use Rattle.tz_resume.proofs.Staying.{calls_stay}
use Rattle.tz_resume.proofs.Taken.{taken_so, returned_so}
use Rattle.tz_resume.proofs.steps_resume.Goals as goal

pub returns-clause-resumes : goal.returns-clause-resumes
returns-clause-resumes c = λ s events from course back typed numbered k s' events' later value p r t. steps_resume s events from course back typed numbered k s' events' later value p r t

pub returns-clause-calls : goal.returns-clause-calls
returns-clause-calls c = λ s e at course typed i secure basic. calls_stay s e at course typed i secure basic

pub returns-clause-taken : goal.returns-clause-taken
returns-clause-taken c = λ s e. taken_so s e

pub returns-clause-returned : goal.returns-clause-returned
returns-clause-returned c = λ s e. returned_so s e
