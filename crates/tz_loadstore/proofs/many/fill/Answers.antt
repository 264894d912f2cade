use Rattle.tz_loadstore.proofs.Puts.{put_more}
use Rattle.tz_loadstore.proofs.many.fill.Goals as goal

pub loop-index-preserved : goal.loop-index-preserved
loop-index-preserved c =
    rw (c.put.ensures, c.loop-index.invariant)
    (put_more c.args.core.now c.args.registers.now c.args.words.now c.loop-index.index c.loop-index-test.true c.requires)
