use Rattle.std.proofs.Common.{◌∙◌, ◌+◌, ap, sym, drop}
use Rattle.toml.specs.View.{items_view, table_view}
use Rattle.tz_board.specs.Boards.{of_kind, tables_of}
use Rattle.tz_board.specs.BoardErrors.{place_of}
use Rattle.tz_board.specs.Tables.{views}
use Rattle.tz_board.proofs.Lists.{all_tables, joined, no_table, one_table, views-last}
use Rattle.tz_board.proofs.tables.as_tables.Goals as goal

pub returns-in-None-clause-err : goal.returns-in-None-clause-err
returns-in-None-clause-err c =
    ap (of_kind (place_of c.args.place)) (c.loop-value.invariant
    ∙ no_table c.args.values.now c.loop-value.value-index c.value-item.result (views c.loop-value.tables.items) c.loop-value-test.true c.value-item.is c.in-None.ensures)

pub loop-value-preserved : goal.loop-value-preserved
loop-value-preserved c = c.loop-value.invariant
    ∙ one_table c.args.values.now c.loop-value.value-index c.value-item.result (table_view c.in-Some.table.now) (views c.loop-value.tables.items) c.loop-value-test.true c.value-item.is c.in-Some.ensures
    ∙ ap (λ ms. joined ms (tables_of (items_view (drop (c.loop-value.value-index + 1) c.args.values.now)))) (sym (ap views c.in-Ok.ensures.items ∙ views-last c.loop-value.tables.items c.in-Some.table))

pub returns-clause-ok : goal.returns-clause-ok
returns-clause-ok c = c.loop-value.invariant ∙ all_tables c.args.values.now c.loop-value.value-index (views c.loop-value.tables.items) c.loop-value-test.false
