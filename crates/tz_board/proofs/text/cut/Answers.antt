use Rattle.std.proofs.Common.{◌≡◌, ◌∙◌, ◌+◌, ◌∷◌, ◌++◌, ◌==◌, ℕ, List, ap, arith, false, get_or, sym, take}
use Rattle.std.proofs.lemmas.Bool.{ne_eqb}
use Rattle.tz_board.proofs.Pieces.{cut_at, not_cut, to_end}
use Rattle.tz_board.proofs.text.cut.Goals as goal
use borrow.Author.Count.{below_more}

pub returns-then-b-separator : goal.returns-then-b-separator
returns-then-b-separator c =
    let cut = cut_at c.args.separator c.args.text.now c.loop-index.index c.loop-index-test.true c.if-b-separator.true c.loop-index.invariant in
    (cut.0 ∙ ap (λ (ys : List ℕ). take c.loop-index.index c.args.text.now ++ c.args.separator ∷ ys) (sym (to_end c.args.text.now (c.loop-index.index + 1))), cut.1)

pub loop-index-preserved : goal.loop-index-preserved
loop-index-preserved c =
    below_more (λ k. (get_or c.args.text.now k 0 == c.args.separator) ≡ false) c.loop-index.index c.loop-index.invariant (ne_eqb (get_or c.args.text.now c.loop-index.index 0) c.args.separator c.if-b-separator.false)

pub returns : goal.returns
returns c = not_cut c.args.separator c.args.text.now (λ k lt. c.loop-index.invariant k (omega arith))
