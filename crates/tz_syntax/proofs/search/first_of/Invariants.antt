use Rattle.std.proofs.Common.{◌≡◌, drop}
use Rattle.std.specs.List.{find}
use Rattle.tz_syntax.specs.Rows.{fits, row_view}
use Rattle.tz_syntax.proofs.search.first_of.Given as goal

abbrev pub invariant-loop-row : goal.invariant-loop-row
invariant-loop-row l = find (λ r. fits l.values l.width (row_view r)) (drop l.row-index l.rows) ≡ find (λ r. fits l.values l.width (row_view r)) l.rows
