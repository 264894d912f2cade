use Rattle.std.proofs.Common.{◌+◌, length, sym, ap, arith}
use Rattle.tz_model.specs.declared.report.ScriptEvent.{ScriptEvent}
use Rattle.tz_cli.proofs.Dues.{due_start, due_next, due_within}
use Rattle.tz_cli.proofs.generated.due_counted.Goals as goal

pub loop-step-init : goal.loop-step-init
loop-step-init g c = sym (due_start c.args.script.now)

pub overflow_add-count : goal.overflow_add-count
overflow_add-count g c =
    let few = c.requires.few in
    let counted = c.loop-step.invariant in
    let now = ap (length {A = ScriptEvent}) c.due_next.ensures.events in
    let next = due_next c.loop-step.step c.args.script.now in
    let within = due_within (c.loop-step.step + 1) c.args.script.now in
    omega (arith, few, counted, now, next, within)

pub loop-step-preserved : goal.loop-step-preserved
loop-step-preserved g c =
    let counted = c.loop-step.invariant in
    let now = ap (length {A = ScriptEvent}) c.due_next.ensures.events in
    let next = due_next c.loop-step.step c.args.script.now in
    omega (arith, counted, now, next)

pub overflow_cast-result : goal.overflow_cast-result
overflow_cast-result g c =
    let few = c.requires.few in
    let counted = c.loop-step.invariant in
    let within = due_within c.loop-step.step c.args.script.now in
    omega (arith, few, counted, within)
