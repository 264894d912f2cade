use Rattle.std.proofs.Common.{◌≡◌, ◌+◌, ◌-◌, ℕ, List, get_or, length, drop, take, length-drop, refl, sym, ap, ◌∙◌, arith}
use Rattle.std.proofs.lemmas.Option.{slice_get-get_or}
use Rattle.tz_model.specs.declared.board.Region.{Region}
use Rattle.tz_model.specs.declared.board.RegionKind.TheVariants.{Rom}
use Rattle.tz_model.specs.declared.board.RegionSide.TheVariants.{Secure}
use Rattle.tz_state.specs.Memory.{with_bytes}
use Rattle.tz_state.specs.State.{Bus, with_memory}
use Rattle.tz_fields.specs.ReadWords.{with_regions, words_of}
use Rattle.tz_fields.proofs.Indexed.{block_in}
use Rattle.tz_fields.proofs.Reading.{region_fits, region_read, regions_end, rest_of}
use Rattle.tz_fields.proofs.from_words.put_memory.Goals as goal

abbrev none : Region
none = record { base = 0; size = 0; kind = Rom; side = Secure }

pub slice_bounds-put_region-end : goal.slice_bounds-put_region-end
slice_bounds-put_region-end c = omega (arith, c.loop-region.invariant.left)

-- the next region, with what is known of it
abbrev next : List Region → ℕ → Region
next rs i = get_or rs i none

pub put_region-requires : goal.put_region-requires
put_region-requires c =
    let rs : List Region = c.args.regions.now in
    let i : ℕ = c.loop-region.region-index in
    let at = slice_get-get_or rs i none c.loop-region-test.true in
    let block = block_in rs i (next rs i) c.requires.blocks at in
    let fits = region_fits rs i (i + 1) c.loop-region.at (length c.args.bytes.now) (next rs i) refl at block c.loop-region.invariant.left in
    let size : length (drop c.loop-region.at c.args.bytes.now) ≡ length c.args.bytes.now - c.loop-region.at = length-drop c.loop-region.at c.args.bytes.now in
    rw (rest_of c.args.bytes.now c.loop-region.at) (omega (arith, fits, size))

pub loop-region-preserved : goal.loop-region-preserved
loop-region-preserved c =
    let rs : List Region = c.args.regions.now in
    let bs : List ℕ = c.args.bytes.now in
    let i : ℕ = c.loop-region.region-index in
    let r : Region = next rs i in
    let from : ℕ = c.loop-region.at in
    let at = slice_get-get_or rs i none c.loop-region-test.true in
    let block = block_in rs i r c.requires.blocks at in
    let fits = region_fits rs i (i + 1) from (length bs) r refl at block c.loop-region.invariant.left in
    let put : c.put_region.new.bus.state ≡ with_memory c.loop-region.bus.state (with_bytes c.loop-region.bus.state.memory r.base (take r.size (drop from bs))) =
    c.in_ok-put_region.ensures ∙ ap (λ (ys : List ℕ). with_memory c.loop-region.bus.state (with_bytes c.loop-region.bus.state.memory r.base (take r.size ys))) (rest_of bs from)
    in
    let read = region_read c.loop-region.bus.state.memory rs i (i + 1) from (from + r.size) r bs refl at block refl (omega (arith, fits)) (λ j. omega (arith, c.type_inv.bytes j)) in
    record {
      told = c.loop-region.invariant.told ∙ ap (λ m. with_memory c.loop-region.bus.state m) read
          ∙ sym (ap (λ (b : Bus). with_memory b (with_regions b.memory (drop (i + 1) rs) (words_of (drop (from + r.size) bs)))) put);
      left = fits;
    }

pub returns : goal.returns
returns c =
    sym (c.loop-region.invariant.told
    ∙ ap (λ m. with_memory c.loop-region.bus.state m) (regions_end c.loop-region.bus.state.memory c.args.regions.now c.loop-region.region-index (words_of (drop c.loop-region.at c.args.bytes.now)) c.loop-region-test.false))
