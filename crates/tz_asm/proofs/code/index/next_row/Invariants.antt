use Rattle.std.proofs.Common.{◌≡◌, ◌≤◌, length}
use Rattle.tz_asm.specs.Index.{named_at}
use Rattle.tz_asm.proofs.code.index.next_row.Given as goal

abbrev pub invariant-loop-rest : goal.invariant-loop-rest
invariant-loop-rest l = record {
  rows : named_at l.word l.rest ≡ named_at l.word l.places;
  shorter : length l.rest ≤ length l.places;
}

abbrev pub decreases-loop-rest : goal.decreases-loop-rest
decreases-loop-rest l = length l.rest
