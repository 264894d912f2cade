use Rattle.std.proofs.Common.{Result, length}
use Rattle.tz_asm.specs.Coded.{Coded, CodedBy}
use Rattle.tz_asm.specs.Front.{views}
use Rattle.tz_asm.specs.Index.{named_at}
use Rattle.tz_asm.specs.CodeViews.{site_view}
use Rattle.tz_asm.specs.declared.code.uncoded.Uncoded.{Uncoded}
use Rattle.tz_table.specs.declared.units.Code.{Code}
use Rattle.tz_asm.proofs.code.coded.code_of.Given as goal

abbrev pub invariant-loop-row : goal.invariant-loop-row
invariant-loop-row l = (result : Result Code Uncoded) → CodedBy (named_at l.mnemonic l.places) l.mnemonic (views l.operands) (site_view l.site) l.label result → Coded l.mnemonic (views l.operands) l.place l.label result

abbrev pub decreases-loop-row : goal.decreases-loop-row
decreases-loop-row l = length l.places
