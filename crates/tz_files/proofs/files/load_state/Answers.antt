-- Each exit is how the file was read.
use Rattle.std.proofs.Common.{◌∙◌, sym, subst, ap, List, ℕ}
use Rattle.tz_snap.specs.StateFile.{saved_of}
use Rattle.tz_snap.specs.Refusals.{IsStateRefusal}
use Rattle.tz_files.specs.Reads.{AsState}
use Rattle.tz_files.proofs.Stages.{state_unread, state_accepted, state_refused}
use Rattle.tz_files.proofs.files.load_state.Goals as goal

pub returns-in-Err : goal.returns-in-Err
returns-in-Err g c = state_unread _ _ c.args.name c.args.board.now c.in-Err.fault (c.in-Err.ensures.files AsState)

pub returns-in-Ok-load : goal.returns-in-Ok-load
returns-in-Ok-load g c =
    state_accepted _ _ c.args.name c.args.board.now c.in-Ok.bytes.items (record { state = c.in-Ok-load.saved.machine; step = c.in-Ok-load.saved.step }) (c.in-Ok.ensures.files AsState)
    (ap (saved_of c.args.board.now) (sym c.deref.ensures.value) ∙ c.in-Ok-load.ensures.ok)

pub returns : goal.returns
returns g c =
    state_refused _ _ c.args.name c.args.board.now c.in-Ok.bytes.items c.in-Err-load.error (c.in-Ok.ensures.files AsState)
    (subst (λ (bs : List ℕ). IsStateRefusal c.in-Err-load.error (saved_of c.args.board.now bs)) c.deref.ensures.value c.in-Err-load.ensures.err)
