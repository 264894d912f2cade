-- Each exit by the files that were read before it.
use Rattle.std.proofs.Common.{◌≡◌, ap}
use Rattle.tz_model.specs.Board.{BoardValue}
use Rattle.tz_words.specs.Pair.{pair_in}
use Rattle.tz_files.proofs.Loads.{first_before, first_fault, first_with, second_before, second_fault, second_with, third_before, third_fault, third_with, events_before, events_fault, events_with}
use Rattle.tz_files.proofs.files.load_pair.Goals as goal

pub returns-in-Err : goal.returns-in-Err
returns-in-Err g c =
    let p = pair_in c.args.words.now in
    let e = c.in-Err.fault in
    events_before _ _ p e (third_before _ _ p e (second_before _ _ p e (first_before _ _ p e c.in-Err.ensures)))

pub returns-in-Err-load_image : goal.returns-in-Err-load_image
returns-in-Err-load_image g c =
    let p = pair_in c.args.words.now in
    let e = c.in-Err-load_image.fault in
    events_before _ _ p e (third_before _ _ p e (second_before _ _ p e (first_fault _ _ _ p c.in-Ok.board e c.in-Ok.ensures c.in-Err-load_image.ensures)))

pub returns-in-Err-load_image-2 : goal.returns-in-Err-load_image-2
returns-in-Err-load_image-2 g c =
    let p = pair_in c.args.words.now in
    let e = c.in-Err-load_image-2.fault in
    events_before _ _ p e (third_before _ _ p e
    (second_fault _ _ _ p _ e (first_with _ _ _ p c.in-Ok.board c.in-Ok-load_image.image c.in-Ok.ensures c.in-Ok-load_image.ensures) c.in-Err-load_image-2.ensures))

pub returns-in-Err-load_image-3 : goal.returns-in-Err-load_image-3
returns-in-Err-load_image-3 g c =
    let p = pair_in c.args.words.now in
    let e = c.in-Err-load_image-3.fault in
    events_before _ _ p e
    (third_fault _ _ _ p _ e
    (second_with _ _ _ p _ c.in-Ok-load_image-2.image (first_with _ _ _ p c.in-Ok.board c.in-Ok-load_image.image c.in-Ok.ensures c.in-Ok-load_image.ensures) c.in-Ok-load_image-2.ensures)
    c.in-Err-load_image-3.ensures)

pub returns : goal.returns
returns g c =
    let p = pair_in c.args.words.now in
    let many : c.board.inside.interrupts ≡ c.in-Ok.board.interrupts = cc (ap (λ (b : BoardValue). b.interrupts) c.board.view_is) in
    events_fault _ _ _ p _ _ c.in-Err-load_script.fault many
    (third_with _ _ _ p _ c.in-Ok-load_image-3.image
    (second_with _ _ _ p _ c.in-Ok-load_image-2.image (first_with _ _ _ p c.in-Ok.board c.in-Ok-load_image.image c.in-Ok.ensures c.in-Ok-load_image.ensures) c.in-Ok-load_image-2.ensures)
    c.in-Ok-load_image-3.ensures)
    c.in-Err-load_script.ensures

pub returns-in-Ok-load_script : goal.returns-in-Ok-load_script
returns-in-Ok-load_script g c =
    let p = pair_in c.args.words.now in
    let many : c.board.inside.interrupts ≡ c.in-Ok.board.interrupts = cc (ap (λ (b : BoardValue). b.interrupts) c.board.view_is) in
    events_with _ _ _ p _ _ c.in-Ok-load_script.script many
    (third_with _ _ _ p _ c.in-Ok-load_image-3.image
    (second_with _ _ _ p _ c.in-Ok-load_image-2.image (first_with _ _ _ p c.in-Ok.board c.in-Ok-load_image.image c.in-Ok.ensures c.in-Ok-load_image.ensures) c.in-Ok-load_image-2.ensures)
    c.in-Ok-load_image-3.ensures)
    c.in-Ok-load_script.ensures
