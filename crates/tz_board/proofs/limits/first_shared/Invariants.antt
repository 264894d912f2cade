use Rattle.std.proofs.Common.{◌≡◌, drop}
use Rattle.tz_board.specs.Boards.{first_shared}
use Rattle.tz_board.proofs.limits.first_shared.Given as goal

abbrev pub invariant-loop-index : goal.invariant-loop-index
invariant-loop-index l = first_shared 0 l.regions l.r ≡ first_shared l.index (drop l.index l.regions) l.r
