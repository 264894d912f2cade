use Rattle.std.proofs.Common.{append-nil, sym}
use Rattle.tz_show.proofs.Regions.{sau_none}
use Rattle.tz_show.proofs.units.push_sau_region.Goals as goal

pub returns-in-None-clause-bytes : goal.returns-in-None-clause-bytes
returns-in-None-clause-bytes c = rw (sau_none c.args.sau.now.sau.regions c.args.k c.in-None.ensures) (sym (append-nil c.args.text.now.bytes))
