use Rattle.std.proofs.Common.{◌+◌, ◌*◌, ◌≤◌, arith, sym}
use Rattle.tz_state.specs.Difference.{open_byte_differs}
use Rattle.tz_mem.specs.Difference.{region_at}
use Rattle.tz_access.proofs.OpenBytes.{none_secure, none_whole, none_of_nothing, some_in_block, none_in_block}
use Rattle.tz_access.proofs.bus.Bus.differs_in_region.Goals as goal

pub returns-then-not-is_left_to_sau : goal.returns-then-not-is_left_to_sau
returns-then-not-is_left_to_sau c =
    none_secure c.args.self.now.state c.args.other.now.state c.args.index c.know_regions.ensures c.know_apart.ensures c.requires.there c.if-not-is_left_to_sau.ensures

pub returns-then-not-differs_in : goal.returns-then-not-differs_in
returns-then-not-differs_in c =
    let r = region_at c.args.self.now.state.board.regions c.args.index in
    none_whole c.args.self.now.state c.args.other.now.state r.base c.size_of-size.result r.size c.size_of-size.ensures c.if-not-differs_in.ensures

pub loop-block-init : goal.loop-block-init
loop-block-init c =
    none_of_nothing (open_byte_differs c.args.self.now.state c.args.other.now.state) (region_at c.args.self.now.state.board.regions c.args.index).base

pub returns-then-differs_in_block : goal.returns-then-differs_in_block
returns-then-differs_in_block c =
    let r = region_at c.args.self.now.state.board.regions c.args.index in
    let fit : (c.loop-block.block + 1) * 32 ≤ r.size = omega (arith, c.loop-block-test.true, c.size_of-size.ensures) in
    sym (some_in_block (open_byte_differs c.args.self.now.state c.args.other.now.state) r.base r.size c.loop-block.block fit (sym c.if-differs_in_block.ensures))

pub loop-block-preserved : goal.loop-block-preserved
loop-block-preserved c =
    none_in_block (open_byte_differs c.args.self.now.state c.args.other.now.state) (region_at c.args.self.now.state.board.regions c.args.index).base c.loop-block.block
    c.loop-block.invariant (sym c.if-differs_in_block.ensures)
