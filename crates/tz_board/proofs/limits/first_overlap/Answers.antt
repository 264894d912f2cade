use Rattle.std.proofs.Common.{◌∙◌, sym}
use Rattle.tz_board.proofs.Overlaps.{overlaps_here, overlaps_later, overlaps_none}
use Rattle.tz_board.proofs.limits.first_overlap.Goals as goal

pub returns-in-Some : goal.returns-in-Some
returns-in-Some c =
    sym (c.loop-index.invariant ∙ overlaps_here c.args.regions.now c.in-Some.earlier c.loop-index.index c.loop-index-test.true (sym c.in-Some.ensures))

pub loop-index-preserved : goal.loop-index-preserved
loop-index-preserved c =
    c.loop-index.invariant ∙ overlaps_later c.args.regions.now c.loop-index.index c.loop-index-test.true (sym c.in_default.ensures)

pub returns : goal.returns
returns c = sym (c.loop-index.invariant ∙ overlaps_none c.args.regions.now c.loop-index.index c.loop-index-test.false)
