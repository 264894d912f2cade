use Rattle.std.proofs.Common.{◌∙◌, ◌-◌, ap, arith}
use Rattle.tz_run.proofs.Drawing.{drawn_start, drawn_more, drawn_end, drawn_all}
use Rattle.tz_run.specs.Generated.{stirred}
use Rattle.tz_run.proofs.job.generated_events.Goals as goal

pub loop-event-init : goal.loop-event-init
loop-event-init c = drawn_start c.args.seed c.args.steps _ _ c.new-events.ensures.items (c.stirred-number.ensures ∙ ap stirred c.stirred.ensures)

pub overflow_add-step : goal.overflow_add-step
overflow_add-step c = let low = c.loop-event.invariant.low in omega (arith, low)

pub overflow_add-step-in-loop-event : goal.overflow_add-step-in-loop-event
overflow_add-step-in-loop-event c = let low = c.loop-event.invariant.low in omega (arith, low)

pub returns-then-step-steps : goal.returns-then-step-steps
returns-then-step-steps c =
    let test = c.if-step-steps.true in
    let value = c.drawn.ensures in
    drawn_end c.args.seed c.args.steps _ _ _ (10000 - c.loop-event._event) (omega (arith, test, value)) c.loop-event.invariant

pub loop-event-preserved : goal.loop-event-preserved
loop-event-preserved c =
    let value = c.drawn.ensures in
    let part = c.from.ensures in
    let within = c.if-step-steps.false in
    let few = c.loop-event-test.true in
    drawn_more c.args.seed c.args.steps _ _ _ _ c.loop-event.last c.loop-event._event _ (omega (arith, few)) (omega (arith, value, part)) (omega (arith, within))
    c.in_ok-push.ensures.items c.stirred-number-in-loop-event.ensures c.loop-event.invariant

pub returns : goal.returns
returns c = drawn_all c.args.seed c.args.steps _ _ _ (10000 - c.loop-event._event) (let test = c.loop-event-test.false in omega (arith, test)) c.loop-event.invariant
