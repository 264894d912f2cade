use Rattle.std.proofs.Common.{◌≡◌, take, drop}
use Rattle.tz_asm.specs.Texts.{quoted_at}
use Rattle.tz_asm.proofs.TextTurns.{all_onto}
use Rattle.tz_asm.proofs.source.text.quoted_at.Given as goal

abbrev pub invariant-loop-place : goal.invariant-loop-place
invariant-loop-place l = quoted_at l.line ≡ all_onto (take l.place l.line) (quoted_at (drop l.place l.line))
