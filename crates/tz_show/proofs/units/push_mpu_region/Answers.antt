use Rattle.std.proofs.Common.{append-nil, sym}
use Rattle.tz_show.proofs.Regions.{mpu_none}
use Rattle.tz_show.proofs.units.push_mpu_region.Goals as goal

pub returns-in-None-clause-bytes : goal.returns-in-None-clause-bytes
returns-in-None-clause-bytes c = rw (mpu_none c.args.profile c.args.mpu.now.mpu.regions c.args.k c.in-None.ensures) (sym (append-nil c.args.text.now.bytes))
