use Rattle.std.proofs.Common.{◌≡◌, IsTrue, drop}
use Rattle.tz_model.specs.Board.{are_sau_regions}
use Rattle.tz_board.specs.Boards.{each, sau_region_in}
use Rattle.tz_board.specs.Tables.{views}
use Rattle.tz_board.proofs.Lists.{after}
use Rattle.tz_board.proofs.tables.each_sau_region.Given as goal

abbrev pub invariant-loop-index : goal.invariant-loop-index
invariant-loop-index l = record {
  read : each sau_region_in 0 (views l.tables) ≡ after l.regions.items (each sau_region_in l.index (views (drop l.index l.tables)));
  good : IsTrue (are_sau_regions l.regions.items);
}
