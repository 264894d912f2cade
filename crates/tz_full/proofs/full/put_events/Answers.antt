use Rattle.std.proofs.Common.{arith}
use Rattle.tz_tell.proofs.Texts.{sent_start, sent_line, sent_failed}
use Rattle.tz_full.proofs.EventLines.{events_more}
use Rattle.tz_full.proofs.full.put_events.Goals as goal

pub loop-event-init : goal.loop-event-init
loop-event-init g c = record { sent = sent_start _ _ _; later = omega arith }

pub loop-event-preserved : goal.loop-event-preserved
loop-event-preserved g c = record {
  sent = sent_line _ _ _ _ _ _ _ _ _ _ c.loop-event.invariant.sent (events_more c.args.due.now c.loop-event.event-index _ c.loop-event-test.true) c.in_default.ensures.put;
  later = let l = c.in_default.ensures.cause.later in omega (arith, l, c.loop-event.invariant.later);
}

pub returns-in-Err-clause-put : goal.returns-in-Err-clause-put
returns-in-Err-clause-put g c =
    sent_failed _ _ _ _ _ _ _ _ _ _ c.in-Err.error c.loop-event.invariant.sent
    (events_more c.args.due.now c.loop-event.event-index _ c.loop-event-test.true) c.in-Err.ensures.put
