use Rattle.std.proofs.Common.{arith, sym}
use Rattle.tz_access.proofs.OpenBytes.{none_held}
use Rattle.tz_access.proofs.bus.Bus.differs_at_block.Goals as goal

pub returns : goal.returns
returns c =
    sym (none_held c.args.self.now.state c.args.other.now.state c.args.block c.know_filled.ensures c.know_filled-2.ensures c.requires.same c.know_regions.ensures
    (λ i l. c.loop-index.invariant i (omega (arith, l, c.loop-index-test.false, c.region_count-index-end.ensures))))
