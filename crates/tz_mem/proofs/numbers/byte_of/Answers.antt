-- The byte of the place that was found.
use Rattle.std.proofs.Common.{slice_get, arith, ap, sym, ◌≡◌, ◌∙◌, ◌<◌, length}
use Rattle.tz_mem.specs.Blocks.{BlockValue, IsPlace}
use Rattle.tz_mem.proofs.Places.{place_at, place_none, index_of_place, offset_of_place, byte_of_place}
use Rattle.tz_mem.proofs.Bytes.{get_here}
use Rattle.tz_mem.proofs.numbers.byte_of.Goals as goal

pub bounds-blocks-index : goal.bounds-blocks-index
bounds-blocks-index c = index_of_place _ _ _ _ (place_at _ _ _ (sym c.in-Some.ensures))

pub offset_bounds-blocks-index : goal.offset_bounds-blocks-index
offset_bounds-blocks-index c =
    let within : c.in-Some.index < length c.args.blocks.now = index_of_place _ _ _ _ (place_at _ _ _ (sym c.in-Some.ensures)) in
    omega arith

pub index-requires : goal.index-requires
index-requires c =
    let h : c.in-Some.offset < length c.index-blocks-index.result.bytes = offset_of_place _ _ _ _ _ (place_at _ _ _ (sym c.in-Some.ensures)) c.index-blocks-index.is in
    let e : c.block.inside.bytes.items ≡ c.index-blocks-index.result.bytes = ap (λ (x : BlockValue). x.bytes) c.block.view_is in
    omega (arith, ap length e)

pub returns-in-Some : goal.returns-in-Some
returns-in-Some c =
    let place : IsPlace c.args.blocks.now c.args.addr c.in-Some.index c.in-Some.offset = place_at _ _ (c.in-Some.index, c.in-Some.offset) (sym c.in-Some.ensures) in
    let e : c.block.inside.bytes.items ≡ c.index-blocks-index.result.bytes = ap (λ (x : BlockValue). x.bytes) c.block.view_is in
    let h : c.in-Some.offset < length c.index-blocks-index.result.bytes = offset_of_place _ _ _ _ _ place c.index-blocks-index.is in
    let within : c.in-Some.offset < length c.block.inside.bytes.items = omega (arith, ap length e) in
    sym (byte_of_place _ _ _ _ _ place c.index-blocks-index.is ∙ ap (λ xs. slice_get xs c.in-Some.offset) (sym e) ∙ get_here _ _ _ within c.index.ensures)

pub returns-in-None : goal.returns-in-None
returns-in-None c = sym (place_none _ _ _ (sym c.in-None.ensures))
