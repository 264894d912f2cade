use Rattle.std.proofs.Common.{◌∙◌, ap, sym, List, arith}
use Rattle.tz_model.specs.declared.report.ScriptEvent.{ScriptEvent}
use Rattle.tz_sem.specs.Step.{Stepped, step}
use Rattle.tz_board.specs.Scripts.{due_at}
use Rattle.tz_run.proofs.FullTold.{text_told, so_far_start, so_far_step, so_far_end, so_far_failed, state_at_end}
use Rattle.tz_run.proofs.full.run_counted.Goals as goal

pub loop-step-init : goal.loop-step-init
loop-step-init g c = record { lines = so_far_start _ _ _ _ _; later = omega arith }

pub loop-step-preserved : goal.loop-step-preserved
loop-step-preserved g c =
    let due = c.due-due.ensures.events in
    let made = c.step_told-account.ensures.step in
    let moved = ap (λ (d : List ScriptEvent). (step c.loop-step.machine d).state) (sym due) ∙ ap (λ (x : Stepped). x.state) made in
    let told = text_told (λ k. due_at k c.args.script.now) c.loop-step.step _ _ _ _ _ due made c.step_told-account.ensures.account in
    record {
      lines = so_far_step _ _ _ _ _ _ _ _ _ _ _ _ _ c.loop-step-test.true moved told c.loop-step.invariant.lines (rw c.lent-state.ensures at c.in_default.ensures.put);
      later = let l = c.in_default.ensures.cause.later in omega (arith, l, c.loop-step.invariant.later);
    }

pub returns-in-Err-clause-put : goal.returns-in-Err-clause-put
returns-in-Err-clause-put g c =
    let due = c.due-due.ensures.events in
    let made = c.step_told-account.ensures.step in
    let moved = ap (λ (d : List ScriptEvent). (step c.loop-step.machine d).state) (sym due) ∙ ap (λ (x : Stepped). x.state) made in
    let told = text_told (λ k. due_at k c.args.script.now) c.loop-step.step _ _ _ _ _ due made c.step_told-account.ensures.account in
    so_far_failed _ _ _ _ _ _ _ _ _ _ _ _ _ c.in-Err.error c.loop-step-test.true moved told c.loop-step.invariant.lines (rw c.lent-state.ensures at c.in-Err.ensures.put)

pub returns-clause-put : goal.returns-clause-put
returns-clause-put g c = so_far_end _ _ _ _ _ _ _ _ _ c.loop-step-test.false c.loop-step.invariant.lines

pub returns-clause-state : goal.returns-clause-state
returns-clause-state g c = state_at_end _ _ _ _ _ _ _ _ _ c.loop-step-test.false c.loop-step.invariant.lines
