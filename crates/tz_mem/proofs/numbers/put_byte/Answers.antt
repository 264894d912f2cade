use Rattle.std.proofs.Common.{◌<◌, ap, sym, subst, arith, length}
use Rattle.tz_mem.specs.Blocks.{BlockValue, view_of}
use Rattle.tz_mem.specs.Values.{with_bytes}
use Rattle.tz_mem.proofs.Places.{place_at, place_none, index_of_place, offset_of_place, mapped_of_place, mapped_none}
use Rattle.tz_mem.proofs.Written.{place_written, none_written}
use Rattle.tz_mem.proofs.numbers.put_byte.Goals as goal

pub bounds-blocks-index : goal.bounds-blocks-index
bounds-blocks-index c = index_of_place _ _ _ _ (place_at _ _ _ (sym c.in-Some.ensures))

pub offset_bounds-blocks-index : goal.offset_bounds-blocks-index
offset_bounds-blocks-index c =
    let within : c.in-Some.index < length c.args.blocks.now = index_of_place _ _ _ _ (place_at _ _ _ (sym c.in-Some.ensures)) in
    omega arith

pub put-requires : goal.put-requires
put-requires c =
    let place = place_at _ _ _ (sym c.in-Some.ensures) in
    let within = offset_of_place _ _ _ _ c.index-blocks-index.result place c.index-blocks-index.is in
    omega (arith, subst (λ (k : BlockValue). c.in-Some.offset < length k.bytes) c.index-blocks-index.is within)

pub returns-in-Some-clause-mapped : goal.returns-in-Some-clause-mapped
returns-in-Some-clause-mapped c = sym (mapped_of_place _ _ _ _ (place_at _ _ _ (sym c.in-Some.ensures)))

pub returns-in-Some-clause-put : goal.returns-in-Some-clause-put
returns-in-Some-clause-put c = place_written _ _ _ _ _ _ _ _ (place_at _ _ _ (sym c.in-Some.ensures)) c.index-blocks-index.is c.from.ensures c.ranges.byte.fits c.put.ensures

pub returns-in-None-clause-mapped : goal.returns-in-None-clause-mapped
returns-in-None-clause-mapped c = sym (mapped_none _ _ (place_none _ _ _ (sym c.in-None.ensures)))

pub returns-in-None-clause-put : goal.returns-in-None-clause-put
returns-in-None-clause-put c = ap (with_bytes (view_of c.args.blocks.now)) (none_written _ _ _ (place_none _ _ _ (sym c.in-None.ensures)))
