use Rattle.std.proofs.Common.{◌≡◌, subst, List, arith}
use Rattle.tz_model.specs.declared.report.ScriptEvent.{ScriptEvent}
use Rattle.tz_sem.specs.Step.{step}
use Rattle.tz_run.proofs.Counting.{tallied_start, tallied_step, tally_at_end, tallied_state}
use Rattle.tz_run.proofs.tally.tally_counted.Goals as goal

pub loop-step-init : goal.loop-step-init
loop-step-init g c = record { so_far = tallied_start _ _ _; none = λ k after before. absurd (omega (arith, before)) }

pub loop-step-preserved : goal.loop-step-preserved
loop-step-preserved g c =
    let report = c.step_over.new.report in
    let made =
    subst (λ (due : List ScriptEvent). step c.loop-step.machine due ≡ record { state = c.step_over.new.self; report = report }) c.due_at_step-due.ensures.events c.step_over.ensures.steps in
    record {
      so_far = tallied_step _ _ _ _ _ _ _ _ report c.loop-step-test.true made c.with_step-tally.ensures.secure c.with_step-tally.ensures.taken c.with_step-tally.ensures.ran c.loop-step.invariant.so_far;
      none = λ k after before. c.due_at_step-due.ensures.none k (omega (arith, after)) before;
    }

pub returns-clause-state : goal.returns-clause-state
returns-clause-state g c = tallied_state _ _ _ _ _ _ c.loop-step-test.false c.loop-step.invariant.so_far

pub returns-clause-tally : goal.returns-clause-tally
returns-clause-tally g c = tally_at_end _ _ _ _ _ _ c.loop-step-test.false c.loop-step.invariant.so_far
