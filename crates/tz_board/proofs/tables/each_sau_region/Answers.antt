use Rattle.std.proofs.Common.{◌∙◌, ◌+◌, ℕ, ap, subst, sym, drop}
use Rattle.toml.specs.View.{table_view}
use Rattle.tz_board.specs.BoardErrors.{IsBoardRefusal}
use Rattle.tz_board.specs.Boards.{each, sau_region_in}
use Rattle.tz_board.specs.Tables.{views}
use Rattle.tz_board.proofs.Accepted.{are_sau_regions-last}
use Rattle.tz_board.proofs.Lists.{after, all_read, one_read, read_stops}
use Rattle.tz_board.proofs.tables.each_sau_region.Goals as goal

pub returns-in-Err-clause-err : goal.returns-in-Err-clause-err
returns-in-Err-clause-err c =
    let here : IsBoardRefusal c.in-Err.error (sau_region_in c.loop-index.index (table_view c.index-tables-index.result.now)) =
    subst (λ (i : ℕ). IsBoardRefusal c.in-Err.error (sau_region_in i (table_view c.index-tables-index.result.now))) c.in-Ok.ensures.1 c.in-Err.ensures.err in
    rw c.loop-index.invariant.read (read_stops c.in-Err.error sau_region_in c.args.tables.now c.loop-index.index c.index-tables-index.result c.loop-index.regions.items c.loop-index-test.true c.index-tables-index.is here)

pub loop-index-preserved : goal.loop-index-preserved
loop-index-preserved c = record {
  read = c.loop-index.invariant.read
      ∙ one_read sau_region_in c.args.tables.now c.loop-index.index c.index-tables-index.result c.in-Ok-sau_region.region c.loop-index.regions.items c.loop-index-test.true c.index-tables-index.is (ap (λ (i : ℕ). sau_region_in i (table_view c.index-tables-index.result.now)) (sym c.in-Ok.ensures.1) ∙ c.in-Ok-sau_region.ensures.ok)
      ∙ ap (λ xs. after xs (each sau_region_in (c.loop-index.index + 1) (views (drop (c.loop-index.index + 1) c.args.tables.now)))) (sym c.in-Ok-push.ensures.items);
  good = rw c.in-Ok-push.ensures.items (are_sau_regions-last c.loop-index.regions.items c.in-Ok-sau_region.region c.loop-index.invariant.good c.in-Ok-sau_region.ensures.good);
}

pub returns-clause-ok : goal.returns-clause-ok
returns-clause-ok c = c.loop-index.invariant.read ∙ all_read sau_region_in c.args.tables.now c.loop-index.index c.loop-index.regions.items c.loop-index-test.false
