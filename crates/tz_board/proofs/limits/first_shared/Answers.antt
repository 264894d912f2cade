use Rattle.std.proofs.Common.{◌∙◌, sym}
use Rattle.tz_board.proofs.Overlaps.{shares_here, shares_later, shares_none}
use Rattle.tz_board.proofs.limits.first_shared.Goals as goal

pub returns-then-not-is_apart : goal.returns-then-not-is_apart
returns-then-not-is_apart c =
    sym (c.loop-index.invariant ∙ shares_here c.args.regions.now c.loop-index.index c.args.r.now c.loop-index-test.true (sym c.if-not-is_apart.ensures))

pub loop-index-preserved : goal.loop-index-preserved
loop-index-preserved c =
    c.loop-index.invariant ∙ shares_later c.args.regions.now c.loop-index.index c.args.r.now c.loop-index-test.true (sym c.if-not-is_apart.ensures)

pub returns : goal.returns
returns c = sym (c.loop-index.invariant ∙ shares_none c.args.regions.now c.loop-index.index c.args.r.now c.loop-index-test.false)
