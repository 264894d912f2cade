use Rattle.std.proofs.Common.{◌≡◌, take}
use Rattle.arrayvec.specs.ArrayVec.{array_vec_len}
use Rattle.tz_full.proofs.instruction.filled_of.Given as goal

abbrev pub invariant-loop-index : goal.invariant-loop-index
invariant-loop-index l = record {
  items : l.registers.items ≡ take l.index-index l.index-items;
  len : array_vec_len l.registers ≡ l.index-index;
}
