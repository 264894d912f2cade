use Rattle.std.proofs.Common.{◌≡◌, ◌∙◌, ap, sym, arith}
use Rattle.tz_full.specs.Escalation.{active_before}
use Rattle.tz_full.proofs.Before.{active_more}
use Rattle.tz_full.proofs.escalation.active_before.Goals as goal

pub loop-index-preserved : goal.loop-index-preserved
loop-index-preserved c = record {
  least = (rw c.loop-index.invariant.least at c.least_with-least.ensures.is) ∙ sym (active_more c.args.exceptions.now c.args.taken c.loop-index.index);
  few = c.least_with-least.ensures.few;
}

pub returns-clause-is : goal.returns-clause-is
returns-clause-is c =
    let e : c.loop-index.index ≡ 272 = omega arith in
    c.loop-index.invariant.least ∙ ap (active_before c.args.exceptions.now c.args.taken) e
