use Rattle.std.proofs.Common.{arith}
use Rattle.tz_ready.proofs.Bits.{put_same, put_other}
use Rattle.tz_ready.proofs.levels.Levels.put.Goals as goal

pub returns-clause-set : goal.returns-clause-set
returns-clause-set c = put_same c.args.self.now.words c.args.number (omega arith)

pub returns-clause-others : goal.returns-clause-others
returns-clause-others c = put_other c.args.self.now.words c.args.number (omega arith)
