use Rattle.std.proofs.Common.{◌≡◌, drop}
use Rattle.tz_asm.specs.Mnemonics.{lettered}
use Rattle.tz_asm.proofs.code.mnemonics.lettered.Given as goal
use Rattle.tz_syntax.specs.Rows.{somes}

abbrev pub invariant-loop-piece : goal.invariant-loop-piece
invariant-loop-piece l = lettered (somes (drop l.piece-index l.pieces)) ≡ lettered (somes l.pieces)
