use Rattle.std.proofs.Common.{ap, ◌∙◌, sym}
use Rattle.tz_model.specs.Words.{is_nonsecure_side}
use Rattle.tz_iso.proofs.Stepped.{marked_started, begun_marked}
use Rattle.tz_iso.proofs.runs.begin_marks.Goals as goal

pub returns-in-Secure : goal.returns-in-Secure
returns-in-Secure c =
    λ due. begun_marked c.args.marks.now c.note_timers.new.marks c.note_moves_of_both.new.marks c.args.first.now c.args.second.now due c.requires.marked
    c.note_timers.ensures.grows c.exceptions.result.now c.exceptions-in-Secure.result.now c.exceptions.ensures c.exceptions-in-Secure.ensures
    c.note_timers.ensures.timers c.note_moves_of_both.ensures.first c.note_moves_of_both.ensures.second

pub returns-in-NonSecure : goal.returns-in-NonSecure
returns-in-NonSecure c =
    λ due. marked_started c.clear.new.self c.args.first.now c.args.second.now due c.requires.linked (ap is_nonsecure_side (sym c.side.ensures ∙ c.in-NonSecure.is))
