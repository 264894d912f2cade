use Rattle.std.proofs.Common.{◌≡◌, Err}
use Rattle.tz_encode.proofs.search.find.Given as goal
use Rattle.tz_encode.specs.Search.{Found}
use Rattle.tz_bits.specs.Values.{values_of}
use Rattle.tz_table.specs.Table.{rows}
use Rattle.tz_table.specs.declared.instruction.Insn.{Insn}

abbrev pub invariant-loop-index : goal.invariant-loop-index
invariant-loop-index l = (i : Insn) → l.values ≡ values_of i → Found rows l.width i l.index (Err l.blamed)
