use Rattle.tz_table.proofs.Apart.{one_row_holds}
use Rattle.tz_table.proofs.Data.{count_of_rows}
use Rattle.tz_table.proofs.rows.row_count.Goals as goal

pub returns-clause-count : goal.returns-clause-count
returns-clause-count c = count_of_rows

pub returns-clause-one_row : goal.returns-clause-one_row
returns-clause-one_row c = one_row_holds
