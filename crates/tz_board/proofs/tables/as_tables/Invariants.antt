use Rattle.std.proofs.Common.{◌≡◌, drop}
use Rattle.toml.specs.View.{items_view}
use Rattle.tz_board.specs.Boards.{tables_of}
use Rattle.tz_board.specs.Tables.{views}
use Rattle.tz_board.proofs.Lists.{joined}
use Rattle.tz_board.proofs.tables.as_tables.Given as goal

abbrev pub invariant-loop-value : goal.invariant-loop-value
invariant-loop-value l = tables_of (items_view l.values) ≡ joined (views l.tables.items) (tables_of (items_view (drop l.value-index l.values)))
