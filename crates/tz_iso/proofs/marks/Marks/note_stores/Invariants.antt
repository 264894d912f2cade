use Rattle.std.proofs.Common.{◌≡◌, ℕ, false, drop}
use Rattle.tz_twin.specs.Writing.{are_beside, are_in_memory}
use Rattle.tz_iso.specs.Marks.{marks_byte, Grows}
use Rattle.tz_iso.proofs.marks.Marks.note_stores.Given as goal

-- what is left to mark tells all
abbrev pub invariant-loop-store : goal.invariant-loop-store
invariant-loop-store l = record {
  grows : Grows l.fn.self l.self;
  all : l.self.all ≡ false → are_in_memory (drop l.store-index l.stores) ≡ are_in_memory l.stores;
  exceptions : l.self.exceptions ≡ false → are_in_memory (drop l.store-index l.stores) ≡ are_in_memory l.stores;
  bytes : (a : ℕ) → marks_byte l.self a ≡ false → are_beside (drop l.store-index l.stores) a ≡ are_beside l.stores a;
}
