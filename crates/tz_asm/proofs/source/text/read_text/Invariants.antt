use Rattle.std.proofs.Common.{◌≡◌, false, drop}
use Rattle.tz_asm.specs.Texts.{text_from}
use Rattle.tz_asm.proofs.TextTurns.{all_onto}
use Rattle.tz_asm.proofs.source.text.read_text.Given as goal

abbrev pub invariant-loop-place : goal.invariant-loop-place
invariant-loop-place l = text_from false l.line ≡ all_onto l.bytes.items (text_from l.escaped (drop l.place l.line))
