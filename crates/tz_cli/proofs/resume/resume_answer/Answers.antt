-- Each exit is its answer.
use Rattle.std.proofs.Common.{refl, arith}
use Rattle.tz_words.specs.Resume.{resume_in}
use Rattle.tz_words.specs.Commands.{Resume}
use Rattle.tz_cli.specs.Tasks.{resume_next, resumed_text}
use Rattle.tz_files.specs.Faults.{saved_value}
use Rattle.tz_cli.proofs.Exits.{gains_nothing, answer_steps, answer_told, answer_task, answer_late, within, resume_comes, resume_stops, resume_gives, state_read}
use Rattle.tz_cli.proofs.resume.resume_answer.Goals as goal

pub returns-then-words-gt-STEP_LIMIT : goal.returns-then-words-gt-STEP_LIMIT
returns-then-words-gt-STEP_LIMIT g c =
    let w = resume_in c.args.words.now in
    answer_steps _ (Resume w) w.steps _ (resume_next w) (resume_comes _ w refl refl) _ c.if-words-gt-STEP_LIMIT.true (gains_nothing _) c.refuse.ensures

pub returns-in-Err : goal.returns-in-Err
returns-in-Err g c =
    let w = resume_in c.args.words.now in
    answer_told _ (Resume w) _ (resume_next w) (within _ (Resume w) w.steps _ (resume_next w) (resume_comes _ w refl refl) c.if-words-gt-STEP_LIMIT.false)
    _ c.in-Err.fault c.in-Err.ensures.answer (gains_nothing _) c.refuse_fault.ensures

pub returns-then-files-words : goal.returns-then-files-words
returns-then-files-words g c =
    let w = resume_in c.args.words.now in
    let start = saved_value c.in-Ok.files in
    let few = c.if-words-gt-STEP_LIMIT.false in
    let many = c.if-files-words.true in
    answer_late _ (Resume w) _ (resume_next w) (within _ (Resume w) w.steps _ (resume_next w) (resume_comes _ w refl refl) few)
    _ start w.state c.in-Ok.ensures.answer (resume_stops w start (omega (arith, few, many))) (state_read _ w start c.in-Ok.ensures.answer) (gains_nothing _) c.refuse-then-files-words.ensures

pub returns : goal.returns
returns g c =
    let w = resume_in c.args.words.now in
    let start = saved_value c.in-Ok.files in
    let few = c.if-words-gt-STEP_LIMIT.false in
    let fits = c.if-files-words.false in
    answer_task _ (Resume w) _ (resume_next w) (within _ (Resume w) w.steps _ (resume_next w) (resume_comes _ w refl refl) few)
    _ start (record { text = resumed_text w start; status = 0 }) refl c.in-Ok.ensures.answer (resume_gives w start (omega (arith, few, fits))) c.resume_started.ensures refl
