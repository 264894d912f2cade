use Rattle.std.proofs.Common.{◌∙◌, refl}
use Rattle.tz_mem.proofs.Zeros.{zeros_more, regions_more}
use Rattle.tz_mem.proofs.memory.zero_blocks.Goals as goal

pub loop-region-preserved : goal.loop-region-preserved
loop-region-preserved c =
    let zeros = c.in_ok-bytes.ensures.items_if_clones_equal (λ y h. h) in (
      regions_more _ _ _ c.args.regions.now c.loop-region.region-index _ c.in_ok-push.ensures.items c.loop-region-test.true refl refl refl zeros c.loop-region.invariant.0,
      zeros_more _ _ _ c.args.regions.now c.loop-region.region-index _ c.in_ok-push.ensures.items c.loop-region-test.true refl zeros
          ∙ c.loop-region.invariant.1,
    )
