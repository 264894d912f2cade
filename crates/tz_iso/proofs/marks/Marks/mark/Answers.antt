use Rattle.std.proofs.Common.{refl}
use Rattle.tz_iso.proofs.Marking.{pushed_grows, pushed_marks}
use Rattle.tz_iso.proofs.marks.Marks.mark.Goals as goal

pub returns-else-is_full-clause-grows : goal.returns-else-is_full-clause-grows
returns-else-is_full-clause-grows c = pushed_grows c.args.self.now _ _ refl refl c.push.ensures.items

pub returns-else-is_full-clause-block : goal.returns-else-is_full-clause-block
returns-else-is_full-clause-block c = pushed_marks c.args.self.now.all c.args.self.now.ranges.items c.push.new.self.items c.args.block c.push.ensures.items
