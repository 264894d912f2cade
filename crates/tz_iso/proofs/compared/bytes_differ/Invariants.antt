use Rattle.std.proofs.Common.{◌≡◌, ℕ, ◌/◌, true, drop}
use Rattle.tz_state.specs.Difference.{open_byte_differs}
use Rattle.tz_iso.specs.Marks.{are_among}
use Rattle.tz_iso.proofs.compared.bytes_differ.Given as goal

-- an open byte that differs is in no range before this one
abbrev pub invariant-loop-range : goal.invariant-loop-range
invariant-loop-range l =
    (a : ℕ) → open_byte_differs l.b.state l.c.state a ≡ true → are_among (drop l.range-index l.marks.ranges.items) (a / 32) ≡ are_among l.marks.ranges.items (a / 32)
