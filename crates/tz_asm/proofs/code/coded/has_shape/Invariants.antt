use Rattle.std.proofs.Common.{◌≡◌, length}
use Rattle.tz_asm.specs.Coded.{has_shape_in, shaped}
use Rattle.tz_asm.specs.Front.{views}
use Rattle.tz_asm.specs.Index.{named_at}
use Rattle.tz_asm.proofs.code.coded.has_shape.Given as goal

abbrev pub invariant-loop-row : goal.invariant-loop-row
invariant-loop-row l = has_shape_in (named_at l.mnemonic l.places) l.mnemonic (views l.operands) ≡ shaped l.mnemonic (views l.operands)

abbrev pub decreases-loop-row : goal.decreases-loop-row
decreases-loop-row l = length l.places
