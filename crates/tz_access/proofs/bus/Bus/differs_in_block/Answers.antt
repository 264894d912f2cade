use Rattle.std.proofs.Common.{◌∙◌, ◌+◌, ◌*◌, false, true, sym}
use Rattle.tz_mem.specs.Difference.{region_at}
use Rattle.tz_access.proofs.OpenBytes.{none_open, none_secure_block, block_answer}
use Rattle.tz_access.proofs.bus.Bus.differs_in_block.Goals as goal

pub returns-then-not-is_left_to_sau : goal.returns-then-not-is_left_to_sau
returns-then-not-is_left_to_sau c =
    none_secure_block c.args.self.now.state c.args.other.now.state c.args.index c.args.block c.know_regions.ensures c.know_apart.ensures c.requires.there c.requires.fit
    c.if-not-is_left_to_sau.ensures

pub returns-then-not-differs_in : goal.returns-then-not-differs_in
returns-then-not-differs_in c =
    sym (none_open c.args.self.now.state c.args.other.now.state ((region_at c.args.self.now.state.board.regions c.args.index).base + c.args.block * 32) 32
    (sym c.if-not-differs_in.ensures))

pub returns-then-mine : goal.returns-then-mine
returns-then-mine c =
    block_answer c.args.self.now.state c.args.other.now.state (region_at c.args.self.now.state.board.regions c.args.index) c.args.block c.address_of-addr.result true c.is_open-others.result
    c.know_region.ensures c.address_of-addr.ensures c.if-mine.ensures.value c.is_open-mine.ensures.blocks c.is_open-others.ensures.value c.is_open-others.ensures.blocks
    c.if-not-differs_in.ensures

pub returns-else-mine : goal.returns-else-mine
returns-else-mine c =
    c.if-mine.false
    ∙ block_answer c.args.self.now.state c.args.other.now.state (region_at c.args.self.now.state.board.regions c.args.index) c.args.block c.address_of-addr.result false c.is_open-others.result
    c.know_region.ensures c.address_of-addr.ensures c.if-mine.ensures.value c.is_open-mine.ensures.blocks c.is_open-others.ensures.value c.is_open-others.ensures.blocks
    c.if-not-differs_in.ensures
