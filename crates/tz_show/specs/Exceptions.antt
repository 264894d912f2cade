-- The exceptions that are pending, active or enabled, with their priorities, and what decides how these count.
use Rattle.std.specs.Prelude.{ℕ, ◌-◌, nat_lt, Bool, ◌&&◌, ◌||◌, if◌then◌else◌, List, [], ◌++◌, codes, decimal}
use Rattle.std.specs.Fmt.{signed_decimal}
use Rattle.tz_table.specs.declared.units.Side.{Side}
use Rattle.tz_table.specs.declared.units.Side.TheVariants.{Secure, NonSecure}
use Rattle.tz_model.specs.declared.report.Slot.{Slot}
use Rattle.tz_regs.specs.declared.parts.Status.{Status}
use Rattle.tz_state.specs.declared.slot.SlotState.{SlotState}
use Rattle.tz_state.specs.ExceptionNumbers.{first_interrupt}
use Rattle.tz_state.specs.Slots.{ExceptionsValue, at, places, is_place, slot_at}
use Rattle.tz_state.specs.Priority.{priority_of}
use Rattle.tz_state.specs.Execution.{manual_priority}
use Rattle.tz_state.specs.ControlRegisters.{ccr_value}
use Rattle.tz_syntax.specs.Digits.{hex_byte}
use Rattle.tz_tell.specs.ExceptionNames.{system_name}
use Rattle.tz_show.specs.declared.bits.BitNames.TheVariants.{Ccr}
use Rattle.tz_show.specs.Rows.{pair_row, row, where_so, widened, texts_below}

-- a number below 1000, three characters wide
unfoldable pub wide_number : ℕ → List ℕ
wide_number n = (if nat_lt n 10 then codes "  " else if nat_lt n 100 then codes " " else []) ++ decimal n

-- that of any number, thirteen characters wide; external interrupts count from 0
unfoldable pub exception_name : ℕ → List ℕ
exception_name n = if nat_lt n first_interrupt then widened 13 (system_name n) else codes "Interrupt " ++ wide_number (n - first_interrupt)

unfoldable pub side_mark : Side → List ℕ
side_mark Secure = codes " S  "
side_mark NonSecure = codes " NS "

-- what is so, or as many spaces
abbrev pub flag_text : Bool → List ℕ → List ℕ → List ℕ
flag_text so word spaces = if so then word else spaces

-- pending, active and enabled by software
unfoldable pub flags_text : Bool → Bool → Bool → List ℕ
flags_text pending active enabled =
    flag_text pending (codes " pending") (codes "        ") ++ flag_text active (codes " active") (codes "       ")
    ++ flag_text enabled (codes " enabled") (codes "        ")

-- its number, its name and its side
unfoldable pub slot_words : Slot → List ℕ
slot_words slot = codes "  " ++ wide_number slot.number ++ codes " " ++ exception_name slot.number ++ side_mark slot.side

-- its priority register, and the priority that it counts as
unfoldable pub priority_words : ℕ → ℕ → List ℕ
priority_words byte priority =
    codes " priority " ++ hex_byte byte ++ codes " counts as " ++ signed_decimal (manual_priority priority) ++ codes "\n"

unfoldable pub slot_line : Slot → SlotState → ℕ → List ℕ
slot_line slot kept priority = slot_words slot ++ flags_text kept.pending kept.active kept.enabled ++ priority_words kept.priority priority

-- the exception at a place
unfoldable pub slot_text : ExceptionsValue → ℕ → List ℕ
slot_text e i = slot_line (slot_at e i) (at e i) (priority_of e i)

-- one that is none of these isn't listed
abbrev pub is_listed : ExceptionsValue → ℕ → Bool
is_listed e i = is_place e i && ((at e i).pending || ((at e i).active || (at e i).enabled))

unfoldable pub exception_text : ExceptionsValue → ℕ → List ℕ
exception_text e i = where_so (is_listed e i) (slot_text e i)

-- how priorities are grouped, whether Non-secure ones count in the upper half, and whether BusFault, HardFault and NMI are
-- Non-secure
unfoldable pub grouping_line : ℕ → ℕ → Bool → Bool → List ℕ
grouping_line s ns pris bfhfnmins =
    codes "  PRIGROUP_S " ++ decimal s ++ codes "  PRIGROUP_NS " ++ decimal ns ++ where_so pris (codes "  PRIS")
    ++ where_so bfhfnmins (codes "  BFHFNMINS") ++ codes "\n"

unfoldable pub grouping_text : ExceptionsValue → List ℕ
grouping_text e = grouping_line e.prigroup_s e.prigroup_ns e.pris e.bfhfnmins

-- the vector tables, and what traps, as code reads it
unfoldable pub control_text : Status → List ℕ
control_text t =
    pair_row (codes "  VTOR_S ") t.s.vtor (codes "  VTOR_NS ") t.ns.vtor ++ row (codes "  CCR_S  ") (ccr_value t.s) Ccr
    ++ row (codes "  CCR_NS ") (ccr_value t.ns) Ccr

unfoldable pub exceptions_text : Status → ExceptionsValue → List ℕ
exceptions_text t e = codes "\nExceptions\n" ++ control_text t ++ grouping_text e ++ texts_below (exception_text e) places
