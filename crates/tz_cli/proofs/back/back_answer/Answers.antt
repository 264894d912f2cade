-- Each exit is its answer.
use Rattle.std.proofs.Common.{refl}
use Rattle.tz_words.specs.Back.{back_in}
use Rattle.tz_words.specs.Commands.{Back}
use Rattle.tz_cli.specs.Tasks.{back_task}
use Rattle.tz_files.specs.Faults.{start_value}
use Rattle.tz_cli.proofs.Exits.{gains_nothing, answer_told, answer_task, answer_wanting, back_far, back_next, back_steps, back_within}
use Rattle.tz_cli.proofs.back.back_answer.Goals as goal

pub returns-then-words-gt-STEP_LIMIT : goal.returns-then-words-gt-STEP_LIMIT
returns-then-words-gt-STEP_LIMIT g c = back_steps _ (back_in c.args.words.now) refl refl _ c.if-words-gt-STEP_LIMIT.true (gains_nothing _) c.refuse.ensures

pub returns-then-words-gt-BACK_LIMIT : goal.returns-then-words-gt-BACK_LIMIT
returns-then-words-gt-BACK_LIMIT g c =
    back_far _ (back_in c.args.words.now) refl refl c.if-words-gt-STEP_LIMIT.false _ c.if-words-gt-BACK_LIMIT.true (gains_nothing _) c.refuse-then-words-gt-BACK_LIMIT.ensures

pub returns-in-Err : goal.returns-in-Err
returns-in-Err g c =
    let w = back_in c.args.words.now in
    answer_told _ (Back w) _ (back_next w) (back_within _ w refl refl c.if-words-gt-STEP_LIMIT.false c.if-words-gt-BACK_LIMIT.false)
    _ c.in-Err.fault c.in-Err.ensures.answer (gains_nothing _) c.refuse_fault.ensures

pub returns-in-Ok-back_started : goal.returns-in-Ok-back_started
returns-in-Ok-back_started g c =
    let w = back_in c.args.words.now in
    let start = start_value c.in-Ok.files in
    answer_task _ (Back w) _ (back_next w) (back_within _ w refl refl c.if-words-gt-STEP_LIMIT.false c.if-words-gt-BACK_LIMIT.false)
    _ start (back_task w start) refl c.in-Ok.ensures.answer refl c.in-Ok-back_started.ensures.ran refl

pub returns : goal.returns
returns g c =
    let w = back_in c.args.words.now in
    answer_wanting _ (Back w) _ (back_next w) (back_within _ w refl refl c.if-words-gt-STEP_LIMIT.false c.if-words-gt-BACK_LIMIT.false)
    _ c.in-Err-back_started.ensures.quiet c.refuse-in-Err-back_started.ensures
