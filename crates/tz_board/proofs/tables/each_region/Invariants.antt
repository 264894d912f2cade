use Rattle.std.proofs.Common.{◌≡◌, IsTrue, drop, length}
use Rattle.tz_model.specs.Board.{are_regions}
use Rattle.tz_board.specs.Boards.{each, region_in}
use Rattle.tz_board.specs.Tables.{views}
use Rattle.tz_board.proofs.Lists.{after}
use Rattle.tz_board.proofs.tables.each_region.Given as goal

abbrev pub invariant-loop-index : goal.invariant-loop-index
invariant-loop-index l = record {
  read : each region_in 0 (views l.tables) ≡ after l.regions.items (each region_in l.index (views (drop l.index l.tables)));
  count : length l.regions.items ≡ l.index;
  good : IsTrue (are_regions l.regions.items);
}
