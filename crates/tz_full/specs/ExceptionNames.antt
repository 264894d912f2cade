-- Exceptions by the manual's names; external interrupts count from 0.
use Rattle.std.specs.Prelude.{ℕ, ◌-◌, nat_lt, if◌then◌else◌, List, ◌++◌, codes, decimal}
use Rattle.tz_model.specs.declared.report.Slot.{Slot}
use Rattle.tz_state.specs.ExceptionNumbers.{first_interrupt}
use Rattle.tz_tell.specs.ExceptionNames.{system_name}
use Rattle.tz_full.specs.Words.{side_text}

unfoldable pub exception_name : ℕ → List ℕ
exception_name n = if nat_lt n first_interrupt then system_name n else codes "interrupt " ++ decimal (n - first_interrupt)

-- its name and its side
unfoldable pub slot_text : Slot → List ℕ
slot_text slot = exception_name slot.number ++ codes " " ++ side_text slot.side
