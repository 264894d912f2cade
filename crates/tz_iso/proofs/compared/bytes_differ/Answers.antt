use Rattle.std.proofs.Common.{List, ◌≤◌, length, subst, sym}
use Rattle.tz_state.specs.Difference.{open_byte_differs}
use Rattle.tz_iso.specs.declared.marks.Blocks.{Blocks}
use Rattle.tz_iso.proofs.Blockwise.{none_marked, out_at_end, passes_later}
use Rattle.tz_iso.proofs.compared.bytes_differ.Goals as goal

pub loop-range-preserved : goal.loop-range-preserved
loop-range-preserved c =
    passes_later (open_byte_differs c.args.b.now.state c.args.c.now.state) c.as_slice-range-items.result.now c.args.marks.now.ranges.items c.loop-range.range-index (record { first = 0; last = 0 })
    c.as_slice-range-items.ensures.value c.loop-range-test.true (c.differ_among.ensures.none c.if-differ_among.false) c.loop-range.invariant

pub returns : goal.returns
returns c =
    sym (none_marked c.args.marks.now c.args.b.now.state c.args.c.now.state c.if-marks.false c.requires.marked
    (λ a is.
    out_at_end c.args.marks.now.ranges.items c.loop-range.range-index _ _
    (subst (λ (xs : List Blocks). length xs ≤ c.loop-range.range-index) c.as_slice-range-items.ensures.value c.loop-range-test.false) (c.loop-range.invariant a is)))
