-- The names of faults, which are those of their status bits (DDI0553, UFSR, MMFSR, BFSR, HFSR, SFSR), with the address and
-- the side that they have.
use Rattle.std.specs.Prelude.{ℕ, Bool, if◌then◌else◌, List, [], ◌++◌, codes}
use Rattle.tz_table.specs.declared.units.Side.{Side}
use Rattle.tz_model.specs.declared.report.Fault.{Fault}
use Rattle.tz_model.specs.declared.report.Fault.TheVariants.{Undef, InvState, InvPc, NoCp, StackLimit, Unaligned, DivZero, DataAccess, Exec, Precise, ExecBus, Violation, EntryPoint, Transition, ExcReturn, Signature, Breakpoint, Call}
use Rattle.tz_syntax.specs.Digits.{hex_word}
use Rattle.tz_full.specs.Words.{side_text}

-- SVC is no fault and has no bit
unfoldable pub fault_name : Fault → List ℕ
fault_name Undef = codes "UNDEFINSTR"
fault_name InvState = codes "INVSTATE"
fault_name (InvPc of) = codes "INVPC"
fault_name NoCp = codes "NOCP"
fault_name (StackLimit of) = codes "STKOF"
fault_name Unaligned = codes "UNALIGNED"
fault_name DivZero = codes "DIVBYZERO"
fault_name (DataAccess address of) = codes "DACCVIOL"
fault_name (Exec of) = codes "IACCVIOL"
fault_name (Precise address) = codes "PRECISERR"
fault_name ExecBus = codes "IBUSERR"
fault_name (Violation address) = codes "AUVIOL"
fault_name EntryPoint = codes "INVEP"
fault_name Transition = codes "INVTRAN"
fault_name ExcReturn = codes "INVER"
fault_name Signature = codes "INVIS"
fault_name Breakpoint = codes "DEBUGEVT"
fault_name Call = codes "SVC"

-- the bit of a word of a frame that isn't written (`stacking`) or isn't read
unfoldable pub word_name : Bool → Fault → List ℕ
word_name stacking (DataAccess address of) = if stacking then codes "MSTKERR" else codes "MUNSTKERR"
word_name stacking (Precise address) = if stacking then codes "STKERR" else codes "UNSTKERR"
word_name stacking fault = fault_name fault

abbrev pub of_text : Side → List ℕ
of_text side = codes " " ++ side_text side

abbrev pub at_text : ℕ → List ℕ
at_text address = codes " " ++ hex_word address

-- the address, and the side of the exception where the fault tells it
unfoldable pub where_text : Fault → List ℕ
where_text (DataAccess address of) = at_text address ++ of_text of
where_text (Precise address) = at_text address
where_text (Violation address) = at_text address
where_text (InvPc of) = of_text of
where_text (StackLimit of) = of_text of
where_text (Exec of) = of_text of
where_text fault = []

unfoldable pub fault_text : Fault → List ℕ
fault_text fault = fault_name fault ++ where_text fault

unfoldable pub word_text : Bool → Fault → List ℕ
word_text stacking fault = word_name stacking fault ++ where_text fault
