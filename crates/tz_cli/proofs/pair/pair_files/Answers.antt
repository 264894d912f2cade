-- Each exit is its answer.
use Rattle.std.proofs.Common.{refl}
use Rattle.tz_words.specs.Pair.{pair_in}
use Rattle.tz_words.specs.Commands.{Pair}
use Rattle.tz_files.specs.Starts.{pair_start_files}
use Rattle.tz_cli.specs.Tasks.{PairJob, pair_task, difference_of}
use Rattle.tz_files.specs.Faults.{pair_value}
use Rattle.tz_cli.proofs.Exits.{gains_nothing, answer_steps, answer_told, answer_task, answer_wanting, within, pair_comes, pair_next, pair_done}
use Rattle.tz_cli.proofs.pair.pair_files.Goals as goal

pub returns-then-words-gt-STEP_LIMIT : goal.returns-then-words-gt-STEP_LIMIT
returns-then-words-gt-STEP_LIMIT g c =
    let words = pair_in c.args.words.now in
    answer_steps _ (Pair words) words.steps _ (pair_next words) (pair_comes _ words refl refl) _ c.if-words-gt-STEP_LIMIT.true (gains_nothing _) c.refuse.ensures

pub returns-in-Err : goal.returns-in-Err
returns-in-Err g c =
    let words = pair_in c.args.words.now in
    answer_told _ (Pair words) _ (pair_next words) (within _ (Pair words) words.steps _ (pair_next words) (pair_comes _ words refl refl) c.if-words-gt-STEP_LIMIT.false)
    _ c.in-Err.fault c.in-Err.ensures.answer (gains_nothing _) c.refuse_fault.ensures

pub returns-in-Ok-pair_started : goal.returns-in-Ok-pair_started
returns-in-Ok-pair_started g c =
    let words = pair_in c.args.words.now in
    let start = pair_value c.in-Ok.files in
    let job : PairJob = record { words = words; start = start } in
    answer_task _ (Pair words) _ (pair_next words) (within _ (Pair words) words.steps _ (pair_next words) (pair_comes _ words refl refl) c.if-words-gt-STEP_LIMIT.false)
    _ start (pair_task job) (pair_done (difference_of job)) c.in-Ok.ensures.answer refl c.in-Ok-pair_started.ensures.ran refl

pub returns : goal.returns
returns g c =
    let words = pair_in c.args.words.now in
    answer_wanting _ (Pair words) _ (pair_next words) (within _ (Pair words) words.steps (pair_start_files _ words) (pair_next words) (pair_comes _ words refl refl) c.if-words-gt-STEP_LIMIT.false)
    _ c.in-Err-pair_started.ensures.quiet c.refuse-in-Err-pair_started.ensures
