-- Each exit by the files that were read before it.
use Rattle.std.proofs.Common.{◌≡◌, ap}
use Rattle.tz_model.specs.Board.{BoardValue}
use Rattle.tz_words.specs.StartWords.{start_in}
use Rattle.tz_files.proofs.Loads.{secure_before, secure_fault, secure_with, nonsecure_before, nonsecure_fault, nonsecure_with, script_before, script_fault, script_with}
use Rattle.tz_files.proofs.files.load.Goals as goal

pub returns-in-Err : goal.returns-in-Err
returns-in-Err g c =
    let w = start_in c.args.words.now in
    let e = c.in-Err.fault in
    script_before _ _ w e (nonsecure_before _ _ w e (secure_before _ _ w e c.in-Err.ensures))

pub returns-in-Err-load_image : goal.returns-in-Err-load_image
returns-in-Err-load_image g c =
    let w = start_in c.args.words.now in
    let e = c.in-Err-load_image.fault in
    script_before _ _ w e (nonsecure_before _ _ w e (secure_fault _ _ _ w c.in-Ok.board e c.in-Ok.ensures c.in-Err-load_image.ensures))

pub returns-in-Err-load_image-2 : goal.returns-in-Err-load_image-2
returns-in-Err-load_image-2 g c =
    let w = start_in c.args.words.now in
    let e = c.in-Err-load_image-2.fault in
    script_before _ _ w e
    (nonsecure_fault _ _ _ w _ e (secure_with _ _ _ w c.in-Ok.board c.in-Ok-load_image.image c.in-Ok.ensures c.in-Ok-load_image.ensures) c.in-Err-load_image-2.ensures)

pub returns : goal.returns
returns g c =
    let w = start_in c.args.words.now in
    let many : c.board.inside.interrupts ≡ c.in-Ok.board.interrupts = cc (ap (λ (b : BoardValue). b.interrupts) c.board.view_is) in
    script_fault _ _ _ w _ _ c.in-Err-load_script.fault many
    (nonsecure_with _ _ _ w _ c.in-Ok-load_image-2.image (secure_with _ _ _ w c.in-Ok.board c.in-Ok-load_image.image c.in-Ok.ensures c.in-Ok-load_image.ensures) c.in-Ok-load_image-2.ensures)
    c.in-Err-load_script.ensures

pub returns-in-Ok-load_script : goal.returns-in-Ok-load_script
returns-in-Ok-load_script g c =
    let w = start_in c.args.words.now in
    let many : c.board.inside.interrupts ≡ c.in-Ok.board.interrupts = cc (ap (λ (b : BoardValue). b.interrupts) c.board.view_is) in
    script_with _ _ _ w _ _ c.in-Ok-load_script.script many
    (nonsecure_with _ _ _ w _ c.in-Ok-load_image-2.image (secure_with _ _ _ w c.in-Ok.board c.in-Ok-load_image.image c.in-Ok.ensures c.in-Ok-load_image.ensures) c.in-Ok-load_image-2.ensures)
    c.in-Ok-load_script.ensures
