use Rattle.tz_model.proofs.Puts.{put_then, put_failed}
use Rattle.tz_show.specs.Page.{page}
use Rattle.tz_show.proofs.show.Goals as goal

pub returns-in-Err-clause-put : goal.returns-in-Err-clause-put
unfolding page
returns-in-Err-clause-put g c = put_failed _ _ _ _ _ _ c.in-Err.error c.in-Err.ensures.put

pub returns-clause-put : goal.returns-clause-put
unfolding page
returns-clause-put g c =
    let ranges = rw c.bus.ensures at c.put_ranges.ensures.put in
    put_then _ _ _ _ _ _ _ _ _ c.in_default.ensures.put ranges
