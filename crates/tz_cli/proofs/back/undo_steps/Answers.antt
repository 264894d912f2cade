use Rattle.std.proofs.Common.{arith}
use Rattle.tz_cli.proofs.Histories.{undone_step}
use Rattle.tz_cli.proofs.back.undo_steps.Goals as goal

pub loop-undone-preserved : goal.loop-undone-preserved
loop-undone-preserved c =
    let few = c.requires in
    let more = c.loop-undone-test.true in
    let begin = c.args.history.now in
    undone_step c.loop-undone._undone c.loop-undone.history c.back.new.self begin.now begin.before c.back.ensures.after (omega (arith, few, more)) c.loop-undone.invariant
