use Rattle.tz_model.proofs.Puts.{put_then, put_failed}
use Rattle.tz_show.specs.Dump.{range_text}
use Rattle.tz_show.proofs.memory.put_range.Goals as goal

pub returns-in-Err-clause-put : goal.returns-in-Err-clause-put
unfolding range_text
returns-in-Err-clause-put g c = put_failed _ _ _ _ _ _ c.in-Err.error c.in-Err.ensures.put

pub returns-clause-put : goal.returns-clause-put
unfolding range_text
returns-clause-put g c = put_then _ _ _ _ _ _ _ _ _ c.in_default.ensures.put c.put_lines.ensures.put
