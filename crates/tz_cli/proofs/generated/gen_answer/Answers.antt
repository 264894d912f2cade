-- Each exit is its answer.
use Rattle.std.proofs.Common.{refl}
use Rattle.tz_words.specs.Commands.{Gen}
use Rattle.tz_files.specs.Reads.{no_files}
use Rattle.tz_cli.specs.Tasks.{gen_task}
use Rattle.tz_cli.proofs.Exits.{gains_nothing, answer_steps, answer_task, answer_wanting, within, gen_comes, gen_next}
use Rattle.tz_cli.proofs.generated.gen_answer.Goals as goal

pub returns-then-words-gt-STEP_LIMIT : goal.returns-then-words-gt-STEP_LIMIT
returns-then-words-gt-STEP_LIMIT g c =
    let words = c.args.words.now in
    answer_steps _ (Gen words) words.steps _ gen_next (gen_comes _ words refl refl) _ c.if-words-gt-STEP_LIMIT.true (gains_nothing _) c.refuse.ensures

pub returns-in-Ok : goal.returns-in-Ok
returns-in-Ok g c =
    let words = c.args.words.now in
    answer_task _ (Gen words) (no_files words) gen_next (within _ (Gen words) words.steps (no_files words) gen_next (gen_comes _ words refl refl) c.if-words-gt-STEP_LIMIT.false)
    _ words (gen_task words) refl refl refl c.in-Ok.ensures.ran refl

pub returns-in-Err : goal.returns-in-Err
returns-in-Err g c =
    let words = c.args.words.now in
    answer_wanting _ (Gen words) (no_files words) gen_next (within _ (Gen words) words.steps (no_files words) gen_next (gen_comes _ words refl refl) c.if-words-gt-STEP_LIMIT.false)
    _ c.in-Err.ensures.quiet c.refuse-in-Err.ensures
