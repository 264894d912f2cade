use Rattle.std.proofs.Common.{◌≡◌, subst, List, arith}
use Rattle.tz_model.specs.declared.report.ScriptEvent.{ScriptEvent}
use Rattle.tz_sem.specs.Step.{step}
use Rattle.tz_run.proofs.Known.{typed_start, typed_step, typed_end}
use Rattle.tz_run.proofs.Lines.{so_far_start, so_far_step, so_far_end, so_far_failed, state_at_end}
use Rattle.tz_run.proofs.run_counted.Goals as goal

pub loop-step-init : goal.loop-step-init
loop-step-init g c = record { lines = so_far_start _ _ _ _ _ _ _; typed = typed_start _ _ _; later = omega arith; none = λ k after before. absurd (omega (arith, before)) }

pub loop-step-preserved : goal.loop-step-preserved
loop-step-preserved g c =
    let report = c.step_over.new.report in
    let made =
    subst (λ (due : List ScriptEvent). step c.loop-step.machine due ≡ record { state = c.step_over.new.self; report = report }) c.due_at_step-due.ensures.events c.step_over.ensures.steps in
    record {
      lines = so_far_step _ _ _ _ _ _ _ _ _ _ _ _ _ _ report c.loop-step-test.true made c.loop-step.invariant.lines c.in_default.ensures.put;
      typed = typed_step _ _ _ _ _ _ report made c.know_typed.ensures c.loop-step.invariant.typed;
      later = let l = c.in_default.ensures.cause.later in omega (arith, l, c.loop-step.invariant.later);
      none = λ k after before. c.due_at_step-due.ensures.none k (omega (arith, after)) before;
    }

pub returns-in-Err-clause-put : goal.returns-in-Err-clause-put
returns-in-Err-clause-put g c =
    let report = c.step_over.new.report in
    let made =
    subst (λ (due : List ScriptEvent). step c.loop-step.machine due ≡ record { state = c.step_over.new.self; report = report }) c.due_at_step-due.ensures.events c.step_over.ensures.steps in
    so_far_failed _ _ _ _ _ _ _ _ _ _ _ _ _ _ report c.in-Err.error c.loop-step-test.true made c.loop-step.invariant.lines c.in-Err.ensures.put

pub returns-clause-put : goal.returns-clause-put
returns-clause-put g c = so_far_end _ _ _ _ _ _ _ _ _ _ _ c.loop-step-test.false c.loop-step.invariant.lines

pub returns-clause-state : goal.returns-clause-state
returns-clause-state g c = state_at_end _ _ _ _ _ _ _ _ _ _ _ c.loop-step-test.false c.loop-step.invariant.lines

pub returns-clause-resumption : goal.returns-clause-resumption
returns-clause-resumption g c = typed_end _ _ _ _ _ _ c.loop-step-test.false c.loop-step.invariant.typed
