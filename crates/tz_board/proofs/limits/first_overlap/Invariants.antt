use Rattle.std.proofs.Common.{◌≡◌, [], drop, take}
use Rattle.tz_board.specs.Boards.{first_overlap}
use Rattle.tz_board.proofs.limits.first_overlap.Given as goal

abbrev pub invariant-loop-index : goal.invariant-loop-index
invariant-loop-index l = first_overlap [] l.regions ≡ first_overlap (take l.index l.regions) (drop l.index l.regions)
