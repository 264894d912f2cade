use Rattle.tz_full.proofs.LoadLines.{pair_follows}
use Rattle.tz_full.proofs.loads.push_pair.Goals as goal

pub returns-clause-bytes : goal.returns-clause-bytes
returns-clause-bytes c =
    let low = rw (c.told_of-low.ensures, c.core.ensures, c.bus.ensures) at c.push_load.ensures.bytes in
    let high = rw (c.told_of-high.ensures, c.core-2.ensures, c.bus-2.ensures) at c.push_load-2.ensures.bytes in
    pair_follows _ _ _ _ _ _ _ low high
