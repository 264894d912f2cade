-- Each exit by the files that were read before it.
use Rattle.std.proofs.Common.{◌≡◌, ap}
use Rattle.tz_model.specs.Board.{BoardValue}
use Rattle.tz_snap.specs.StateFile.{SavedState}
use Rattle.tz_words.specs.Resume.{resume_in}
use Rattle.tz_files.proofs.Loads.{kept_before, kept_fault, kept_with, saved_before, saved_fault, saved_with}
use Rattle.tz_files.proofs.files.load_saved.Goals as goal

pub returns-in-Err : goal.returns-in-Err
returns-in-Err g c =
    let w = resume_in c.args.words.now in
    let e = c.in-Err.fault in
    saved_before _ _ w e (kept_before _ _ w e c.in-Err.ensures)

pub returns-in-Err-load_state : goal.returns-in-Err-load_state
returns-in-Err-load_state g c =
    let w = resume_in c.args.words.now in
    let e = c.in-Err-load_state.fault in
    saved_before _ _ w e (kept_fault _ _ _ w c.in-Ok.board e c.in-Ok.ensures c.in-Err-load_state.ensures)

pub returns : goal.returns
returns g c =
    let w = resume_in c.args.words.now in
    let many : c.board.inside.interrupts ≡ c.in-Ok.board.interrupts = cc (ap (λ (b : BoardValue). b.interrupts) c.board.view_is) in
    let saved : SavedState = record { state = c.in-Ok-load_state.saved.machine; step = c.in-Ok-load_state.saved.step } in
    saved_fault _ _ _ w _ _ c.in-Err-load_script.fault many (kept_with _ _ _ w c.in-Ok.board saved c.in-Ok.ensures c.in-Ok-load_state.ensures) c.in-Err-load_script.ensures

pub returns-in-Ok-load_script : goal.returns-in-Ok-load_script
returns-in-Ok-load_script g c =
    let w = resume_in c.args.words.now in
    let many : c.board.inside.interrupts ≡ c.in-Ok.board.interrupts = cc (ap (λ (b : BoardValue). b.interrupts) c.board.view_is) in
    let saved : SavedState = record { state = c.in-Ok-load_state.saved.machine; step = c.in-Ok-load_state.saved.step } in
    saved_with _ _ _ w _ _ c.in-Ok-load_script.script many (kept_with _ _ _ w c.in-Ok.board saved c.in-Ok.ensures c.in-Ok-load_state.ensures) c.in-Ok-load_script.ensures
