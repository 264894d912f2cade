use Rattle.tz_iso.proofs.Moving.{notes_read}
use Rattle.tz_iso.proofs.marks.Marks.note_moves.Goals as goal

pub returns : goal.returns
returns c =
    let h = c.note_move.ensures in
    let k = c.note_move-2.ensures in
    notes_read c.args.machine.now c.channels-channels.result c.args.self.now c.note_move.new.self c.note_move-2.new.self c.channels-channels.ensures
    (record { grows = h.grows; exceptions = h.exceptions; beside = h.bytes }) (record { grows = k.grows; exceptions = k.exceptions; beside = k.bytes })
