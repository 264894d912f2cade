use Rattle.std.proofs.Common.{◌+◌, ◌-◌, ◌/◌, get_or, Some, refl, sym, ap, ◌∙◌, arith}
use Rattle.std.proofs.lemmas.Option.{slice_get-get_or}
use Rattle.tz_model.specs.declared.board.Region.{Region}
use Rattle.tz_model.specs.declared.board.RegionKind.TheVariants.{Rom}
use Rattle.tz_model.specs.declared.board.RegionSide.TheVariants.{Secure}
use Rattle.tz_fields.proofs.Indexed.{memory_here, memory_end, memory_next_region, mapped_in, block_in}
use Rattle.tz_fields.proofs.words.memory_word.Goals as goal

abbrev none : Region
none = record { base = 0; size = 0; kind = Rom; side = Secure }

pub region_word-requires-clause-low : goal.region_word-requires-clause-low
region_word-requires-clause-low c =
    let at = slice_get-get_or c.args.regions.now c.loop-region.region-index none c.loop-region-test.true in
    let block = block_in c.args.regions.now c.loop-region.region-index (get_or c.args.regions.now c.loop-region.region-index none) c.requires.blocks at in
    omega (arith, block.low)

pub region_word-requires-clause-mapped : goal.region_word-requires-clause-mapped
region_word-requires-clause-mapped c = λ a h.
    let at = slice_get-get_or c.args.regions.now c.loop-region.region-index none c.loop-region-test.true in
    rw (sym c.requires.board) (mapped_in c.args.regions.now c.loop-region.region-index a (get_or c.args.regions.now c.loop-region.region-index none) at h)

pub returns-then-left-count : goal.returns-then-left-count
returns-then-left-count c =
    let at = slice_get-get_or c.args.regions.now c.loop-region.region-index none c.loop-region-test.true in
    ap Some c.region_word.ensures
    ∙ sym (memory_here c.args.state.now.bus.memory c.args.regions.now c.loop-region.region-index c.loop-region.left (get_or c.args.regions.now c.loop-region.region-index none) at c.if-left-count.true)
    ∙ sym c.loop-region.invariant

pub loop-region-preserved : goal.loop-region-preserved
loop-region-preserved c =
    let at = slice_get-get_or c.args.regions.now c.loop-region.region-index none c.loop-region-test.true in
    c.loop-region.invariant
    ∙ memory_next_region c.args.state.now.bus.memory c.args.regions.now c.loop-region.region-index (c.loop-region.region-index + 1) c.loop-region.left
    (c.loop-region.left - (get_or c.args.regions.now c.loop-region.region-index none).size / 4) (get_or c.args.regions.now c.loop-region.region-index none) at refl (omega (arith, c.if-left-count.false))

pub returns : goal.returns
returns c = sym (c.loop-region.invariant ∙ memory_end c.args.state.now.bus.memory c.args.regions.now c.loop-region.region-index c.loop-region.left c.loop-region-test.false)
