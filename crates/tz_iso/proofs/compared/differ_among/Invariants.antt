use Rattle.std.proofs.Common.{◌≡◌, ℕ, ◌/◌, ◌<◌, ◌≤◌, false}
use Rattle.tz_state.specs.Difference.{open_byte_differs}
use Rattle.tz_iso.proofs.compared.differ_among.Given as goal

-- no block before this one has an open byte that differs
abbrev pub invariant-loop-block : goal.invariant-loop-block
invariant-loop-block l = (a : ℕ) → l.fn.range.first ≤ a / 32 → a / 32 < l.block → open_byte_differs l.b.state l.c.state a ≡ false
