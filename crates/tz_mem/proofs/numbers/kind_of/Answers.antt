-- The kind of the block that was found.
use Rattle.std.proofs.Common.{arith, ap, sym, ◌∙◌, ◌<◌, length}
use Rattle.tz_state.specs.Access.{takes_writes}
use Rattle.tz_mem.specs.Blocks.{BlockValue}
use Rattle.tz_mem.proofs.Places.{place_at, place_none, index_of_place, mapped_of_place, writable_of_place, mapped_none, writable_none}
use Rattle.tz_mem.proofs.numbers.kind_of.Goals as goal

pub bounds-blocks-index : goal.bounds-blocks-index
bounds-blocks-index c = index_of_place _ _ _ _ (place_at _ _ _ (sym c.in-Some.ensures))

pub offset_bounds-blocks-index : goal.offset_bounds-blocks-index
offset_bounds-blocks-index c =
    let within : c.in-Some.index < length c.args.blocks.now = index_of_place _ _ _ _ (place_at _ _ _ (sym c.in-Some.ensures)) in
    omega arith

pub returns-in-Some : goal.returns-in-Some
returns-in-Some c =
    let place = place_at _ _ _ (sym c.in-Some.ensures) in
    let same = ap (λ (x : BlockValue). takes_writes x.kind) (sym c.block.view_is) in
    (mapped_of_place _ _ _ _ place, writable_of_place _ _ _ _ _ place c.index-blocks-index.is ∙ same)

pub returns-in-None : goal.returns-in-None
returns-in-None c =
    let unmapped = mapped_none _ _ (place_none _ _ _ (sym c.in-None.ensures)) in
    (unmapped, writable_none _ _ unmapped)
