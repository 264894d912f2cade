use Rattle.tz_model.specs.declared.report.ScriptEvent.TheVariants.{Irq}
use Rattle.tz_board.proofs.Opening.{follow-at}
use Rattle.tz_board.proofs.script.Script.of.Goals as goal

pub with_event-requires-clause-order : goal.with_event-requires-clause-order
with_event-requires-clause-order c =
    rw c.loop-step.invariant (follow-at 0 c.args.events.now c.loop-step.step-index (0, Irq 0) c.requires.in_order c.loop-step-test.true)
