use Rattle.std.proofs.Common.{◌≡◌, ◌≤◌, ◌*◌, take}
use Rattle.tz_model.specs.Board.{bytes_of}
use Rattle.tz_board.proofs.limits.bytes_in.Given as goal

abbrev pub invariant-loop-r : goal.invariant-loop-r
invariant-loop-r l = record {
  sum : l.bytes ≡ bytes_of (take l.r-index l.regions);
  small : l.bytes ≤ l.r-index * 0xFFFFFFFF;
}
