use Rattle.std.proofs.Common.{◌∙◌, sym}
use Rattle.tz_syntax.proofs.Turns.{comment_here, comment_more, comment_none}
use Rattle.tz_syntax.proofs.runs.without_comment.Goals as goal

pub returns-then-byte-eq59 : goal.returns-then-byte-eq59
returns-then-byte-eq59 c = sym (c.loop-place.invariant ∙ comment_here c.args.line.now c.loop-place.place c.loop-place-test.true c.if-byte-eq59.true)

pub loop-place-preserved : goal.loop-place-preserved
loop-place-preserved c = c.loop-place.invariant ∙ comment_more c.args.line.now c.loop-place.place c.loop-place-test.true c.if-byte-eq59.false

pub returns : goal.returns
returns c = sym (c.loop-place.invariant ∙ comment_none c.args.line.now c.loop-place.place c.loop-place-test.false)
