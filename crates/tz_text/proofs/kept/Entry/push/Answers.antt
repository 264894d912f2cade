use Rattle.std.proofs.Common.{arith, subst, sym, take-take}
use Rattle.tz_text.specs.Room.{IsText}
use Rattle.tz_text.proofs.kept.Entry.push.Goals as goal

pub push_front-requires-clause-text : goal.push_front-requires-clause-text
push_front-requires-clause-text c = subst IsText (sym (take-take c.args.self.now.len 48 c.args.self.now.piece (omega arith))) c.args.self.now.text

pub returns-then-self-le-SHORT-clause-bytes : goal.returns-then-self-le-SHORT-clause-bytes
returns-then-self-le-SHORT-clause-bytes c = cc (take-take c.args.self.now.len 48 c.args.self.now.piece (omega arith))
