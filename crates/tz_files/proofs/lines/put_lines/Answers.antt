use Rattle.std.proofs.lemmas.Grind.{common_steps}
use Rattle.std.proofs.Common.{arith, sym}
use Rattle.tz_text.proofs.Sending.{sent_failed, sent_line}
use Rattle.tz_files.proofs.lines.put_lines.Goals as goal

pub returns-in-Err-clause-put : goal.returns-in-Err-clause-put
returns-in-Err-clause-put g c = sent_failed _ _ _ _ _ _ _ _ _ _ c.in-Err.error c.lines.invariant.sent (sym c.split_at.ensures.by_index.0) c.in-Err.ensures.put

pub lines-preserved : goal.lines-preserved
lines-preserved g c = record {
  sent = sent_line _ _ _ _ _ _ _ _ _ _ c.lines.invariant.sent (sym c.split_at.ensures.by_index.0) c.in_default.ensures.put;
  later = let l = c.in_default.ensures.cause.later in omega (arith, l, c.lines.invariant.later);
}

-- The first call that the prover tries finds nothing here, after long: the one that does is named.
pub returns-clause-put : goal.returns-clause-put
returns-clause-put g c = grind (arith, common_steps)
