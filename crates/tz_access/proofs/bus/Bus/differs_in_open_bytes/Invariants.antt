use Rattle.std.proofs.Common.{◌≡◌, false, take}
use Rattle.std.specs.List.{list_any}
use Rattle.tz_state.specs.Difference.{open_byte_differs}
use Rattle.tz_access.proofs.OpenBytes.{region_passes}
use Rattle.tz_access.proofs.bus.Bus.differs_in_open_bytes.Given as goal

-- no region before this one has an open byte that differs
abbrev pub invariant-loop-index : goal.invariant-loop-index
invariant-loop-index l =
    list_any (region_passes (open_byte_differs l.self.state l.other.state)) (take l.index l.self.state.board.regions) ≡ false
