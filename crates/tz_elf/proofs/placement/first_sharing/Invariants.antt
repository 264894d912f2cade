use Rattle.std.proofs.Common.{◌≡◌, drop}
use Rattle.tz_elf.specs.Placement.{first_sharing}
use Rattle.tz_elf.proofs.placement.first_sharing.Given as goal

abbrev pub invariant-loop-place : goal.invariant-loop-place
invariant-loop-place l = first_sharing 0 l.segment l.segments ≡ first_sharing l.place l.segment (drop l.place l.segments)
