use Rattle.tz_model.proofs.Puts.{put_then, put_failed}
use Rattle.tz_full.specs.Full.{full}
use Rattle.tz_full.proofs.full.put_under.Goals as goal

pub returns-in-Err-clause-put : goal.returns-in-Err-clause-put
unfolding full
returns-in-Err-clause-put g c = put_failed _ _ _ _ _ _ c.in-Err.error c.in-Err.ensures.put

pub returns-clause-put : goal.returns-clause-put
unfolding full
returns-clause-put g c = put_then _ _ _ _ _ _ _ _ _ c.in_default.ensures.put c.put_rest.ensures.put
