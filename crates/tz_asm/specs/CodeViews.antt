-- What is read as the definitions see it.
use Rattle.tz_asm.specs.Front.{views}
use Rattle.tz_asm.specs.CodedOperands.{OperandRead, ShiftRead, TargetRead}
use Rattle.tz_asm.specs.Pieces.{Progress, Site}
use Rattle.tz_asm.specs.declared.code.operands.Operand.{Operand}
use Rattle.tz_asm.specs.declared.code.operands.Shift.{Shift}
use Rattle.tz_asm.specs.declared.code.operands.Target.{Target}
use Rattle.tz_asm.specs.declared.code.progress.Reading.{Reading}
use Rattle.tz_asm.specs.declared.code.pieces.Site as code

abbrev pub operand_view : Operand → OperandRead
operand_view operand = (operand.value, views operand.rest.now)

abbrev pub shift_view : Shift → ShiftRead
shift_view shift = (shift.kind, shift.amount, views shift.rest.now)

abbrev pub target_view : Target → TargetRead
target_view target = (target.address, target.labelled, views target.rest.now)

abbrev pub progress_view : Reading → Progress
progress_view reading = record { rest = views reading.rest.now; values = reading.values; held = reading.held; labelled = reading.labelled }

abbrev pub site_view : code.Site → Site
site_view site = record { place = site.place; label = site.label }
