use Rattle.std.proofs.Common.{◌≡◌, ◌*◌, false}
use Rattle.tz_state.specs.Difference.{open_byte_differs}
use Rattle.tz_mem.specs.Difference.{some_from, region_at}
use Rattle.tz_access.proofs.bus.Bus.differs_in_region.Given as goal

-- no block before this one has an open byte that differs
abbrev pub invariant-loop-block : goal.invariant-loop-block
invariant-loop-block l =
    some_from (open_byte_differs l.self.state l.other.state) (region_at l.self.state.board.regions l.index).base (l.block * 32) ≡ false
