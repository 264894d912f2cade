-- Each exit by the file that was read before it.
use Rattle.tz_snap.specs.StateFile.{SavedState}
use Rattle.tz_words.specs.ShowWords.{saved_in}
use Rattle.tz_files.proofs.Loads.{shown_before, shown_fault, shown_with}
use Rattle.tz_files.proofs.files.load_shown.Goals as goal

pub returns-in-Err : goal.returns-in-Err
returns-in-Err g c = shown_before _ _ (saved_in c.args.words.now) c.in-Err.fault c.in-Err.ensures

pub returns-in-Ok-load_state : goal.returns-in-Ok-load_state
returns-in-Ok-load_state g c =
    let saved : SavedState = record { state = c.in-Ok-load_state.saved.machine; step = c.in-Ok-load_state.saved.step } in
    shown_with _ _ _ (saved_in c.args.words.now) c.in-Ok.board saved c.in-Ok.ensures c.in-Ok-load_state.ensures

pub returns : goal.returns
returns g c = shown_fault _ _ _ (saved_in c.args.words.now) c.in-Ok.board c.in-Err-load_state.fault c.in-Ok.ensures c.in-Err-load_state.ensures
