-- Each row of the table is described by its slots: group by group, in the order of the table.
use Rattle.std.proofs.Common.{ℕ, zero, suc, List, [], ◌∷◌, take, drop}
use Rattle.tz_table.specs.Rows.{TableRow}
use Rattle.tz_table.specs.Table.{rows}
use Rattle.tz_encode.specs.declared.slot.CodeSlot.{CodeSlot}
use Rattle.tz_encode.specs.declared.shapes.TheConstants.{SHAPES}
use Rattle.tz_encode.proofs.ArithmeticDescribed.{arithmetic_described}
use Rattle.tz_encode.proofs.BranchDescribed.{branch_described}
use Rattle.tz_encode.proofs.DataDescribed.{data_described}
use Rattle.tz_encode.proofs.Described.{AllDescribed}
use Rattle.tz_encode.proofs.LoadDescribed.{load_described}
use Rattle.tz_encode.proofs.MultipleDescribed.{multiple_described}
use Rattle.tz_encode.proofs.NarrowDescribed.{narrow_described}

-- the first n rows, and those after them
both_described : (n : ℕ) (rs : List TableRow) (tss : List (List CodeSlot)) → AllDescribed (take n rs) (take n tss) → AllDescribed (drop n rs) (drop n tss) → AllDescribed rs tss
both_described zero rs tss d e = e
both_described (suc n) [] tss d e = tt
both_described (suc n) (r ∷ rs) [] d e = d
both_described (suc n) (r ∷ rs) (ts ∷ tss) d e = (d.0, both_described n rs tss d.1 e)

pub all_described : AllDescribed rows SHAPES
unfolding rows
all_described =
    both_described 72 rows SHAPES narrow_described
    (both_described 27 (drop 72 rows) (drop 72 SHAPES) multiple_described
    (both_described 43 (drop 99 rows) (drop 99 SHAPES) data_described
    (both_described 11 (drop 142 rows) (drop 142 SHAPES) branch_described
    (both_described 15 (drop 153 rows) (drop 153 SHAPES) load_described arithmetic_described))))
