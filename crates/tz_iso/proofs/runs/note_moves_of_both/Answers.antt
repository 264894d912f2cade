use Rattle.std.proofs.Common.{sym, ◌∙◌}
use Rattle.tz_iso.proofs.Moving.{notes_behind, notes_before, notes_nothing, same_mover}
use Rattle.tz_iso.proofs.runs.note_moves_of_both.Goals as goal

pub returns-then-has_mover-clause-first : goal.returns-then-has_mover-clause-first
returns-then-has_mover-clause-first c =
    notes_before c.args.first.now c.args.marks.now c.note_moves.new.self c.note_moves-then-has_mover.new.self c.note_moves.ensures
    c.note_moves-then-has_mover.ensures.grows

pub returns-then-has_mover-clause-second : goal.returns-then-has_mover-clause-second
returns-then-has_mover-clause-second c =
    notes_behind c.args.second.now c.args.marks.now c.note_moves.new.self c.note_moves-then-has_mover.new.self c.note_moves.ensures.grows
    c.note_moves-then-has_mover.ensures

pub returns-else-has_mover-clause-first : goal.returns-else-has_mover-clause-first
returns-else-has_mover-clause-first c = notes_nothing c.args.first.now c.args.marks.now (sym c.if-has_mover.ensures)

pub returns-else-has_mover-clause-second : goal.returns-else-has_mover-clause-second
returns-else-has_mover-clause-second c =
    notes_nothing c.args.second.now c.args.marks.now (same_mover c.args.first.now c.args.second.now c.requires ∙ sym c.if-has_mover.ensures)
