use Rattle.std.proofs.Common.{◌∙◌, ◌-◌, ℕ, ap, arith}
use Rattle.std.specs.Prelude.{slice_get}
use Rattle.tz_fields.specs.StateWords.{state_words}
use Rattle.tz_snap.proofs.HeadWords.{in_head, in_state}
use Rattle.tz_snap.proofs.writing.file_word.Goals as goal

pub returns-then-index-head : goal.returns-then-index-head
returns-then-index-head c = c.head_word.ensures ∙ in_head c.board-board.result.now c.args.machine.now c.args.step c.args.index c.board-board.ensures (omega arith)

pub returns-else-index-head : goal.returns-else-index-head
returns-else-index-head c =
    c.word.ensures
    ∙ ap (λ (h : ℕ). slice_get (state_words c.args.machine.now) (c.args.index - h)) c.head_count-head.ensures
    ∙ in_state c.board-board.result.now c.args.machine.now c.args.step c.args.index c.board-board.ensures (omega arith)
