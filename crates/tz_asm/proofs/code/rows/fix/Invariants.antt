use Rattle.std.proofs.Common.{◌≡◌, drop}
use Rattle.tz_asm.specs.Rows.{with_fixed}
use Rattle.tz_asm.proofs.code.rows.fix.Given as goal
use Rattle.tz_syntax.specs.Rows.{somes}

abbrev pub invariant-loop-entry : goal.invariant-loop-entry
invariant-loop-entry l = with_fixed (somes (drop l.entry-index l.fixed)) l.values ≡ with_fixed (somes l.fixed) l.fn.values
