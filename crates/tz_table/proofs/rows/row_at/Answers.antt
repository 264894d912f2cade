use Rattle.std.proofs.Common.{◌∙◌, ap, slice_get}
use Rattle.tz_table.proofs.Data.{data_of_rows}
use Rattle.tz_table.proofs.rows.row_at.Goals as goal

pub returns : goal.returns
returns c = c.get.ensures ∙ ap (λ xs. slice_get xs c.args.index) data_of_rows
