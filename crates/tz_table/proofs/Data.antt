-- The data of the rows are the rows'.
use Rattle.std.proofs.Common.{◌≡◌, length, refl}
use Rattle.tz_table.specs.Rows.{rows_of}
use Rattle.tz_table.specs.Table.{rows}
use Rattle.tz_table.specs.declared.rows.TheConstants.{ROWS}

pub data_of_rows : ROWS ≡ rows_of rows
unfolding rows
data_of_rows = refl

pub count_of_rows : 189 ≡ length rows
unfolding rows
count_of_rows = refl
