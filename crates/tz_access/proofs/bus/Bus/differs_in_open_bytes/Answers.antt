use Rattle.std.proofs.Common.{arith, sym}
use Rattle.tz_state.specs.Difference.{open_byte_differs}
use Rattle.tz_mem.specs.Difference.{region_at}
use Rattle.tz_access.proofs.OpenBytes.{some_anywhere, none_anywhere, none_in_all}
use Rattle.tz_access.proofs.bus.Bus.differs_in_open_bytes.Goals as goal

pub returns-then-differs_in_region : goal.returns-then-differs_in_region
returns-then-differs_in_region c =
    let r = region_at c.args.self.now.state.board.regions c.loop-index.index in
    sym (some_anywhere c.args.self.now.state c.args.other.now.state r.base r.size (sym c.if-differs_in_region.ensures))

pub returns : goal.returns
returns c =
    sym (none_anywhere c.args.self.now.state c.args.other.now.state c.know_filled.ensures c.know_filled-2.ensures c.requires
    (none_in_all (open_byte_differs c.args.self.now.state c.args.other.now.state) c.args.self.now.state.board.regions c.loop-index.index
    (omega (arith, c.loop-index-test.false, c.region_count-index-end.ensures)) c.loop-index.invariant))
