use Rattle.std.proofs.Common.{◌≡◌, length}
use Rattle.tz_asm.specs.Mnemonics.{behind}
use Rattle.tz_asm.proofs.code.mnemonics.behind.Given as goal

abbrev pub invariant-loop-letters : goal.invariant-loop-letters
invariant-loop-letters l = behind l.letters l.rest ≡ behind l.name l.word

abbrev pub decreases-loop-letters : goal.decreases-loop-letters
decreases-loop-letters l = length l.letters
