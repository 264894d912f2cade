use Rattle.tz_loadstore.proofs.Puts.{filled_after}
use Rattle.tz_loadstore.proofs.many.fill_past.Goals as goal

pub returns : goal.returns
returns c =
    rw (c.fill.ensures, c.write_back_past.ensures)
    (filled_after c.args.core.now c.args.back c.args.rn c.args.past c.args.registers.now c.args.words.now)
