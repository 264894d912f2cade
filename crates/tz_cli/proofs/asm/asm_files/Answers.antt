-- Each exit is its answer.
use Rattle.std.proofs.Common.{refl, subst, List, ℕ}
use Rattle.tz_model.specs.Outside.{Put}
use Rattle.tz_words.specs.Asm.{asm_in}
use Rattle.tz_words.specs.Commands.{Asm}
use Rattle.tz_files.specs.Told.{Gives}
use Rattle.tz_files.specs.Starts.{source_files}
use Rattle.tz_cli.specs.Tasks.{asm_task}
use Rattle.tz_cli.proofs.Exits.{gains_nothing, answer_told, answer_task, told_put}
use Rattle.tz_cli.proofs.asm.asm_files.Goals as goal

pub returns-in-Err : goal.returns-in-Err
returns-in-Err g c =
    let words = asm_in c.args.words.now in
    answer_told _ (Asm words) (source_files _ words.form words.source) (λ file. Gives (asm_task file)) (record { is = refl; room = refl; settles = refl })
    _ c.in-Err.fault c.in-Err.ensures.answer (gains_nothing _) c.refuse_fault.ensures

pub returns : goal.returns
returns g c =
    let words = asm_in c.args.words.now in
    let file = c.in-Ok.file.items in
    answer_task _ (Asm words) (source_files _ words.form words.source) (λ file. Gives (asm_task file)) (record { is = refl; room = refl; settles = refl })
    _ file (asm_task file) refl c.in-Ok.ensures.answer refl
    (told_put _ _ _ (g.O.Sink.space c.put_file.new.out) file _ _ c.put_file.result _ c.put_status.ensures
    (subst (λ (bs : List ℕ). Put (g.O.Sink.written c.args.out.now) (g.O.Sink.written c.put_file.new.out) (g.O.Sink.space c.args.out.now) (g.O.Sink.space c.put_file.new.out) bs c.put_file.result)
    c.deref.ensures.value c.put_file.ensures.put)
    c.put_file.ensures.cause)
    refl
