-- Each exit is its answer.
use Rattle.std.proofs.Common.{refl, sym, arith, map, Global}
use Rattle.std.specs.String.{string_bytes}
use Rattle.tz_words.specs.Commands.{Pair, Asm, Dis, ShowSaved, Resume, Back, Gen, command_with}
use Rattle.tz_words.specs.StartWords.{start_in}
use Rattle.tz_words.specs.ShowWords.{saved_in}
use Rattle.tz_words.specs.Resume.{resume_in}
use Rattle.tz_words.specs.Back.{back_in}
use Rattle.tz_words.specs.Pair.{pair_in}
use Rattle.tz_words.specs.Asm.{asm_in}
use Rattle.tz_words.specs.Dis.{dis_in}
use Rattle.tz_cli.proofs.Exits.{gains_nothing, answer_words, answer_memory, answer_command}
use Rattle.tz_words.proofs.Backs.{goes_near}
use Rattle.tz_cli.proofs.program.answer.Goals as goal

pub returns-in-Ok-None : goal.returns-in-Ok-None
returns-in-Ok-None g c = answer_words _ _ (sym (rw c.in-Ok-None.field-0-is at c.in-Ok-None.ensures)) (gains_nothing _) (omega arith) c.refuse.ensures

pub returns-in-Err : goal.returns-in-Err
returns-in-Err g c = answer_memory _ _ (gains_nothing _) (omega arith) c.refuse-in-Err.ensures

pub returns-in-Start : goal.returns-in-Start
returns-in-Start g c =
    let says = rw c.in-Start.is at (rw c.in-Ok-Some.field-0-is at c.in-Ok-Some.ensures) in
    answer_command _ _ (map (string_bytes {Z = Global}) c.args.words.now) (command_with (start_in c.in-Start.words) c.in-Start.work) refl refl (sym says) c.work_files.ensures

pub returns-in-Pair : goal.returns-in-Pair
returns-in-Pair g c =
    let says = rw c.in-Pair.is at (rw c.in-Ok-Some.field-0-is at c.in-Ok-Some.ensures) in
    answer_command _ _ (map (string_bytes {Z = Global}) c.args.words.now) (Pair (pair_in c.in-Pair.words)) refl refl (sym says) c.pair_files.ensures

pub returns-in-Asm : goal.returns-in-Asm
returns-in-Asm g c =
    let says = rw c.in-Asm.is at (rw c.in-Ok-Some.field-0-is at c.in-Ok-Some.ensures) in
    answer_command _ _ (map (string_bytes {Z = Global}) c.args.words.now) (Asm (asm_in c.in-Asm.words)) refl refl (sym says) c.asm_files.ensures

pub returns-in-Dis : goal.returns-in-Dis
returns-in-Dis g c =
    let says = rw c.in-Dis.is at (rw c.in-Ok-Some.field-0-is at c.in-Ok-Some.ensures) in
    answer_command _ _ (map (string_bytes {Z = Global}) c.args.words.now) (Dis (dis_in c.in-Dis.words)) refl refl (sym says) c.dis_files.ensures

pub returns-in-ShowSaved : goal.returns-in-ShowSaved
returns-in-ShowSaved g c =
    let says = rw c.in-ShowSaved.is at (rw c.in-Ok-Some.field-0-is at c.in-Ok-Some.ensures) in
    answer_command _ _ (map (string_bytes {Z = Global}) c.args.words.now) (ShowSaved (saved_in c.in-ShowSaved.words)) refl refl (sym says) c.page_files.ensures

pub returns-in-Resume : goal.returns-in-Resume
returns-in-Resume g c =
    let says = rw c.in-Resume.is at (rw c.in-Ok-Some.field-0-is at c.in-Ok-Some.ensures) in
    answer_command _ _ (map (string_bytes {Z = Global}) c.args.words.now) (Resume (resume_in c.in-Resume.words)) refl refl (sym says) c.resume_answer.ensures

pub back_answer-requires : goal.back_answer-requires
back_answer-requires g c =
    let says = rw c.in-Back.is at (rw c.in-Ok-Some.field-0-is at c.in-Ok-Some.ensures) in
    goes_near (map (string_bytes {Z = Global}) c.args.words.now) (back_in c.in-Back.words) (sym says)

pub returns-in-Back : goal.returns-in-Back
returns-in-Back g c =
    let says = rw c.in-Back.is at (rw c.in-Ok-Some.field-0-is at c.in-Ok-Some.ensures) in
    answer_command _ _ (map (string_bytes {Z = Global}) c.args.words.now) (Back (back_in c.in-Back.words)) refl refl (sym says) c.back_answer.ensures

pub returns-in-Gen : goal.returns-in-Gen
returns-in-Gen g c =
    let says = rw c.in-Gen.is at (rw c.in-Ok-Some.field-0-is at c.in-Ok-Some.ensures) in
    answer_command _ _ (map (string_bytes {Z = Global}) c.args.words.now) (Gen c.in-Gen.words) refl refl (sym says) c.gen_answer.ensures
