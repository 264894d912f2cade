use Rattle.tz_syntax.proofs.Finding.{found_row}
use Rattle.tz_syntax.proofs.search.row_of.Goals as goal

pub returns : goal.returns
returns c = found_row c.first_of.result c.args.values.now c.args.width c.rows_from.result.now c.number_at.result c.first_of.ensures c.rows_from.ensures c.number_at.ensures
