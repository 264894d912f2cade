use Rattle.tz_gates.proofs.Regions.{past_region, whole_region}
use Rattle.tz_gates.proofs.spans.part_from.Goals as goal

pub returns-then-end-from : goal.returns-then-end-from
returns-then-end-from c = past_region c.args.region.now c.args.from c.if-end-from.true

pub returns : goal.returns
returns c = whole_region c.args.region.now c.args.from c.requires.region c.if-region-from.false
