use Rattle.std.proofs.Common.{◌≡◌, length, take}
use Rattle.tz_sau.proofs.boot.kept.Given as goal

abbrev pub invariant-loop-index : goal.invariant-loop-index
invariant-loop-index l = record {
  room : length l.kept ≡ 32;
  front : take l.index l.kept ≡ take l.index l.regions;
}
