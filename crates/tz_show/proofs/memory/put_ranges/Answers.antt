use Rattle.std.proofs.Common.{arith}
use Rattle.tz_show.proofs.Ranges.{ranges_more}
use Rattle.tz_tell.proofs.Texts.{sent_start, sent_line, sent_failed}
use Rattle.tz_show.proofs.memory.put_ranges.Goals as goal

pub loop-range-init : goal.loop-range-init
loop-range-init g c = record { sent = sent_start _ _ _; later = omega arith }

pub loop-range-preserved : goal.loop-range-preserved
loop-range-preserved g c = record {
  sent = sent_line _ _ _ _ _ _ _ _ _ _ c.loop-range.invariant.sent (ranges_more c.args.bus.now.state c.args.ranges.now c.loop-range.range-index _ c.loop-range-test.true) c.in_default.ensures.put;
  later = let l = c.in_default.ensures.cause.later in omega (arith, l, c.loop-range.invariant.later);
}

pub returns-in-Err-clause-put : goal.returns-in-Err-clause-put
returns-in-Err-clause-put g c =
    sent_failed _ _ _ _ _ _ _ _ _ _ c.in-Err.error c.loop-range.invariant.sent
    (ranges_more c.args.bus.now.state c.args.ranges.now c.loop-range.range-index _ c.loop-range-test.true) c.in-Err.ensures.put
