use Rattle.std.proofs.Common.{◌≡◌, ◌∙◌, None, Some, ap}
use Rattle.tz_encode.proofs.Places.{data_at}
use Rattle.tz_encode.proofs.search.has_width.Goals as goal
use Rattle.tz_table.specs.Rows.{row_of, same_width}
use Rattle.tz_table.specs.Table.{rows}
use Rattle.tz_table.specs.declared.rows.Row.{Row}

same_row : (a b : Row) → Some a ≡ Some b → a ≡ b
same_row a b h = cc

no_row : (a : Row) → None ≡ Some a → ⊥
no_row a h = cc

pub returns-in-Some : goal.returns-in-Some
returns-in-Some c = λ r e.
    let d = data_at rows c.args.index r e in
    let same : c.in-Some.row ≡ row_of r = same_row c.in-Some.row (row_of r) (c.in-Some.ensures ∙ d) in
    c.same.ensures ∙ ap (λ z. same_width z.width c.args.width) same

pub returns-in-None : goal.returns-in-None
returns-in-None c = λ r e. absurd (no_row (row_of r) (c.in-None.ensures ∙ data_at rows c.args.index r e))
