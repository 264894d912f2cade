use Rattle.std.proofs.Common.{◌∙◌, ◌+◌, ℕ, ap, subst, sym, drop}
use Rattle.toml.specs.View.{table_view}
use Rattle.tz_board.specs.BoardErrors.{IsBoardRefusal}
use Rattle.tz_board.specs.Boards.{each, region_in}
use Rattle.tz_board.specs.Tables.{views}
use Rattle.std.proofs.lemmas.List.{length_push}
use Rattle.tz_board.proofs.Accepted.{are_regions-last}
use Rattle.tz_board.proofs.Lists.{after, all_read, one_read, read_stops}
use Rattle.tz_board.proofs.tables.each_region.Goals as goal

pub returns-in-Err-clause-err : goal.returns-in-Err-clause-err
returns-in-Err-clause-err c =
    let here : IsBoardRefusal c.in-Err.error (region_in c.loop-index.index (table_view c.index-tables-index.result.now)) =
    subst (λ (i : ℕ). IsBoardRefusal c.in-Err.error (region_in i (table_view c.index-tables-index.result.now))) c.in-Ok.ensures.1 c.in-Err.ensures.err in
    rw c.loop-index.invariant.read (read_stops c.in-Err.error region_in c.args.tables.now c.loop-index.index c.index-tables-index.result c.loop-index.regions.items c.loop-index-test.true c.index-tables-index.is here)

pub loop-index-preserved : goal.loop-index-preserved
loop-index-preserved c = record {
  read = c.loop-index.invariant.read
      ∙ one_read region_in c.args.tables.now c.loop-index.index c.index-tables-index.result c.in-Ok-region.region c.loop-index.regions.items c.loop-index-test.true c.index-tables-index.is (ap (λ (i : ℕ). region_in i (table_view c.index-tables-index.result.now)) (sym c.in-Ok.ensures.1) ∙ c.in-Ok-region.ensures.ok)
      ∙ ap (λ xs. after xs (each region_in (c.loop-index.index + 1) (views (drop (c.loop-index.index + 1) c.args.tables.now)))) (sym c.in-Ok-push.ensures.items);
  count = rw c.in-Ok-push.ensures.items (length_push c.loop-index.regions.items c.in-Ok-region.region ∙ ap (λ (n : ℕ). n + 1) c.loop-index.invariant.count);
  good = rw c.in-Ok-push.ensures.items (are_regions-last c.loop-index.regions.items c.in-Ok-region.region c.loop-index.invariant.good c.in-Ok-region.ensures.good);
}

pub returns-clause-ok : goal.returns-clause-ok
returns-clause-ok c = c.loop-index.invariant.read ∙ all_read region_in c.args.tables.now c.loop-index.index c.loop-index.regions.items c.loop-index-test.false
