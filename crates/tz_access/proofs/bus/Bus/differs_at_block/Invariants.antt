use Rattle.std.proofs.Common.{◌≡◌, ℕ, ◌*◌, ◌<◌, false}
use Rattle.tz_model.specs.Board.{in_region}
use Rattle.tz_mem.specs.Difference.{region_at}
use Rattle.tz_access.proofs.bus.Bus.differs_at_block.Given as goal

-- no region before this one holds the block
abbrev pub invariant-loop-index : goal.invariant-loop-index
invariant-loop-index l = (i : ℕ) → i < l.index → in_region (region_at l.self.state.board.regions i) (l.block * 32) ≡ false
