-- Each exit is its answer.
use Rattle.std.proofs.Common.{refl}
use Rattle.tz_words.specs.StartWords.{start_in}
use Rattle.tz_words.specs.Commands.{command_with}
use Rattle.tz_files.specs.Starts.{start_files}
use Rattle.tz_cli.specs.Tasks.{work_task}
use Rattle.tz_files.specs.Faults.{start_value}
use Rattle.tz_cli.proofs.Exits.{gains_nothing, answer_steps, answer_told, answer_task, answer_wanting, within, work_comes, work_next, work_done}
use Rattle.tz_cli.proofs.run.work_files.Goals as goal

pub returns-then-words-gt-STEP_LIMIT : goal.returns-then-words-gt-STEP_LIMIT
returns-then-words-gt-STEP_LIMIT g c =
    let words = start_in c.args.words.now in
    let work = c.args.work.now in
    answer_steps _ (command_with words work) words.steps _ (work_next work words) (work_comes _ words work refl refl) _ c.if-words-gt-STEP_LIMIT.true (gains_nothing _) c.refuse.ensures

pub returns-in-Err : goal.returns-in-Err
returns-in-Err g c =
    let words = start_in c.args.words.now in
    let work = c.args.work.now in
    answer_told _ (command_with words work) _ (work_next work words) (within _ (command_with words work) words.steps _ (work_next work words) (work_comes _ words work refl refl) c.if-words-gt-STEP_LIMIT.false)
    _ c.in-Err.fault c.in-Err.ensures.answer (gains_nothing _) c.refuse_fault.ensures

pub returns-in-Ok-work_started : goal.returns-in-Ok-work_started
returns-in-Ok-work_started g c =
    let words = start_in c.args.words.now in
    let work = c.args.work.now in
    let start = start_value c.in-Ok.files in
    answer_task _ (command_with words work) _ (work_next work words) (within _ (command_with words work) words.steps _ (work_next work words) (work_comes _ words work refl refl) c.if-words-gt-STEP_LIMIT.false)
    _ start (work_task work words start) (work_done words work start) c.in-Ok.ensures.answer refl c.in-Ok-work_started.ensures.ran refl

pub returns : goal.returns
returns g c =
    let words = start_in c.args.words.now in
    let work = c.args.work.now in
    answer_wanting _ (command_with words work) _ (work_next work words)
    (within _ (command_with words work) words.steps (start_files _ words) (work_next work words) (work_comes _ words work refl refl) c.if-words-gt-STEP_LIMIT.false)
    _ c.in-Err-work_started.ensures.quiet c.refuse-in-Err-work_started.ensures
