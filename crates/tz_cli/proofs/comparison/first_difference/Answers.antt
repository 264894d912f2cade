use Rattle.std.proofs.Common.{◌≡◌, List, arith, subst}
use Rattle.tz_model.specs.declared.report.ScriptEvent.{ScriptEvent}
use Rattle.tz_iso.specs.Runs.{pair_after}
use Rattle.tz_run.specs.Events.{events_of}
use Rattle.tz_cli.proofs.Differences.{so_far_found, so_far_step}
use Rattle.tz_cli.proofs.comparison.first_difference.Goals as goal

pub loop-step-preserved : goal.loop-step-preserved
loop-step-preserved g c = record {
  so_far = so_far_step (events_of c.args.script.now) _ c.loop-step.pair c.step.new.self c.loop-step.step _ c.loop-step-test.true
      (subst (λ (due : List ScriptEvent). c.step.new.self ≡ pair_after c.loop-step.pair due) c.due_at_step-due.ensures.events c.step.ensures.steps)
      c.in-Kept.ensures.answer c.loop-step.invariant.so_far;
  none = λ k after before. c.due_at_step-due.ensures.none k (omega (arith, after)) before;
}

pub returns-in-Differ : goal.returns-in-Differ
returns-in-Differ g c =
    so_far_found (events_of c.args.script.now) _ c.loop-step.pair c.step.new.self c.loop-step.step _ c.in-Differ.step c.in-Differ.what c.loop-step-test.true
    (subst (λ (due : List ScriptEvent). c.step.new.self ≡ pair_after c.loop-step.pair due) c.due_at_step-due.ensures.events c.step.ensures.steps)
    c.in-Differ.ensures.answer c.loop-step.invariant.so_far
