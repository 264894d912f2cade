use Rattle.tz_syntax.proofs.Data.{rows_behind}
use Rattle.tz_syntax.proofs.rows.rows_from.Goals as goal

pub returns : goal.returns
returns c = rows_behind c.behind.result.now _ c.start_of.result _ c.behind.ensures c.start_of.ensures c.text_rows.ensures
