use Rattle.std.proofs.Common.{◌≡◌, ℕ, ◌+◌, ◌-◌, List, ◌++◌, length, take, subst, sym, ap, ◌∙◌, arith, length-take-le}
use Rattle.tz_text.specs.Room.{LineBytes, IsText}
use Rattle.tz_text.proofs.Pieces.{take_put_front}
use Rattle.tz_text.proofs.PieceTexts.{text_append}
use Rattle.tz_text.proofs.room.Line.push_front.Goals as goal

pub invariant_of-self : goal.invariant_of-self
invariant_of-self c =
    let len = c.self.inside.len in
    let cells = c.self.inside.cells in
    let old : length (take len cells) ≡ length c.args.self.now.bytes = ap (λ (b : LineBytes). length b.bytes) c.self.view_is in
    let cut : length (take len cells) ≡ len = length-take-le len cells (omega arith) in
    let same = ap length c.copy_from_slice.ensures.after in
    let bytes = take_put_front len (len + length c.args.piece.now - len) c.args.count cells c.copy_from_slice.new.self (omega arith) (omega arith) in
    let front : IsText (take c.args.count c.copy_from_slice.new.self) = subst (λ (p : List ℕ). IsText (take c.args.count p)) (sym c.copy_from_slice.ensures.after) c.requires.text in
    (omega arith, subst IsText (sym bytes) (text_append (take len cells) (take c.args.count c.copy_from_slice.new.self) c.self.invariant.1 front))

pub returns-clause-bytes : goal.returns-clause-bytes
returns-clause-bytes c =
    let len = c.self.inside.len in
    let cells = c.self.inside.cells in
    let same = ap length c.copy_from_slice.ensures.after in
    take_put_front len (len + length c.args.piece.now - len) c.args.count cells c.copy_from_slice.new.self (omega arith) (omega arith)
    ∙ ap (λ (p : List ℕ). take len cells ++ take c.args.count p) c.copy_from_slice.ensures.after
    ∙ ap (λ (b : LineBytes). b.bytes ++ take c.args.count c.args.piece.now) c.self.view_is
