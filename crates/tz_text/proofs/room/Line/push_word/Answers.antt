use Rattle.std.proofs.Common.{◌≡◌, length, take, subst, sym, ap, arith, length-take-le}
use Rattle.tz_syntax.specs.Digits.{hex_word}
use Rattle.tz_text.specs.Room.{LineBytes, IsText}
use Rattle.tz_text.proofs.PieceTexts.{text_append, text_word}
use Rattle.tz_text.proofs.room.Line.push_word.Goals as goal

pub invariant_of-self : goal.invariant_of-self
invariant_of-self c =
    let front = take c.self.inside.len c.self.inside.cells in
    let old : length front ≡ length c.args.self.now.bytes = ap (λ (b : LineBytes). length b.bytes) c.self.view_is in
    let cut : length front ≡ c.self.inside.len = length-take-le c.self.inside.len c.self.inside.cells (omega arith) in
    (omega arith, subst IsText (sym c.write_word.ensures) (text_append front (hex_word c.args.word) c.self.invariant.1 (text_word c.args.word (omega arith))))
