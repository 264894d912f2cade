use Rattle.std.proofs.Common.{◌≡◌, subst, List, arith}
use Rattle.tz_model.specs.declared.report.ScriptEvent.{ScriptEvent}
use Rattle.tz_sem.specs.Step.{step}
use Rattle.tz_run.proofs.Lines.{reached_start, reached_step, reached_end}
use Rattle.tz_run.proofs.make_counted.Goals as goal

pub loop-step-init : goal.loop-step-init
loop-step-init g c = record { so_far = reached_start _ _ _; none = λ k after before. absurd (omega (arith, before)) }

pub loop-step-preserved : goal.loop-step-preserved
loop-step-preserved g c =
    let report = c.step_over.new.report in
    let made =
    subst (λ (due : List ScriptEvent). step c.loop-step.machine due ≡ record { state = c.step_over.new.self; report = report }) c.due_at_step-due.ensures.events c.step_over.ensures.steps in
    record {
      so_far = reached_step _ _ _ _ _ _ report c.loop-step-test.true made c.loop-step.invariant.so_far;
      none = λ k after before. c.due_at_step-due.ensures.none k (omega (arith, after)) before;
    }

pub returns : goal.returns
returns g c = reached_end _ _ _ _ _ c.loop-step-test.false c.loop-step.invariant.so_far
