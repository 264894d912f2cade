use Rattle.tz_gates.proofs.Regions.{next_more, next_none, region_at}
use Rattle.tz_gates.proofs.spans.next_span.Goals as goal

pub loop-region-init : goal.loop-region-init
loop-region-init c = next_none c.args.from

pub part_from-requires-clause-region : goal.part_from-requires-clause-region
part_from-requires-clause-region c = region_at c.args.regions.now c.loop-region.region-index _ c.requires.regions c.loop-region-test.true

pub loop-region-preserved : goal.loop-region-preserved
loop-region-preserved c =
    next_more c.args.regions.now c.loop-region.region-index _ c.args.from c.loop-region.next c.part_from.result c.sooner-next.result c.loop-region-test.true c.sooner-next.ensures
    c.loop-region.invariant c.part_from.ensures
