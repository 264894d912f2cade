-- Faults, refused returns and exceptions that are taken: the lines of a step in which exceptions have a part.
use Rattle.std.specs.Prelude.{ℕ, ◌+◌, ◌*◌, nat_lt, Bool, true, false, ◌&&◌, not, if◌then◌else◌, Option, Some, None, List, [], ◌++◌, codes, decimal, unwrap_or}
use Rattle.std.specs.Fmt.{signed_decimal}
use Rattle.tz_table.specs.declared.units.Side.{Side}
use Rattle.tz_table.specs.declared.units.Side.TheVariants.{Secure, NonSecure}
use Rattle.tz_table.specs.declared.units.Size.TheVariants.{Byte}
use Rattle.tz_model.specs.declared.board.Profile.{Profile}
use Rattle.tz_model.specs.declared.board.Profile.TheVariants.{V80, V81}
use Rattle.tz_model.specs.declared.report.Fault.{Fault}
use Rattle.tz_model.specs.declared.report.Fault.TheVariants.{Call, InvPc}
use Rattle.tz_model.specs.declared.report.Slot.{Slot}
use Rattle.tz_model.specs.Words.{wrap}
use Rattle.tz_regs.specs.declared.parts.Core.{Core}
use Rattle.tz_regs.specs.Banks.{status_of}
use Rattle.tz_state.specs.Access.{is_mapped}
use Rattle.tz_state.specs.Memory.{every, byte_at}
use Rattle.tz_state.specs.State.{Bus, State}
use Rattle.tz_state.specs.Slots.{ExceptionsValue, places, exists, index_of}
use Rattle.tz_state.specs.Priority.{priority_of}
use Rattle.tz_state.specs.Execution.{manual_priority}
use Rattle.tz_frames.specs.declared.leaving.Returning.{Returning}
use Rattle.tz_frames.specs.ReturnBits.{exc_return_dcrs}
use Rattle.tz_frames.specs.Status.{exception_of, frame_exception}
use Rattle.tz_frames.specs.Leave.{is_set, is_exc_return, returning_by, side_of_bit}
use Rattle.tz_sem.specs.declared.ending.Cause.{Cause}
use Rattle.tz_sem.specs.declared.ending.Cause.TheVariants.{Taken}
use Rattle.tz_syntax.specs.Digits.{hex_word}
use Rattle.tz_full.specs.FaultNames.{fault_text}
use Rattle.tz_full.specs.ExceptionNames.{slot_text}
use Rattle.tz_full.specs.Escalation.{raised_text}
use Rattle.tz_full.specs.FrameLines.{known_word}
use Rattle.tz_full.specs.LoadLines.{is_resumed}
use Rattle.tz_full.specs.RefusalLines.{flag_digit, exc_return_line, refused_line}
use Rattle.tz_full.specs.EntryFrames.{interrupted_line, chain_line, basic_lines, has_additional, additional_process, additional_lines}
use Rattle.tz_sem.specs.declared.account.Account.{Account}
use Rattle.tz_frames.specs.declared.entering.Entering.{Entering}
use Rattle.tz_sem.specs.declared.ending.Handling.{Handling}
use Rattle.tz_frames.specs.declared.leaving.Refusal.{Refusal}
use Rattle.tz_frames.specs.declared.leaving.Refusal.TheVariants.{Value, Frame, Mode}

-- ---- the exception that was taken

abbrev pub is_taken : Cause → Bool
is_taken Taken = true
is_taken cause = false

-- an exception that is taken is handled after the step
abbrev pub slot_handled : Core → Slot
slot_handled c = record { number = c.registers.ipsr; side = c.run.side }

-- the place of the exception that a step took; none where it took none
abbrev pub place_taken : Cause → State → ℕ
place_taken cause s =
    if is_taken cause && exists s.exceptions (slot_handled s.core) then index_of (slot_handled s.core) else places

-- ---- the fault of the instruction

-- the byte at an address, and 0 where no region holds it
abbrev pub known_byte : Bus → ℕ → ℕ
known_byte b a = if every (is_mapped b.board.regions) a Byte then byte_at b.memory a else 0

-- the number of SVC is the low byte of its code
unfoldable pub fault_line : Bus → ℕ → Fault → List ℕ
fault_line b pc Call = codes "    SVC " ++ decimal (known_byte b pc) ++ codes "\n"
fault_line b pc fault = codes "    fault " ++ fault_text fault ++ codes "\n"

-- of the core before the step, whose code faulted
unfoldable pub fault_lines : Core → State → ℕ → Fault → List ℕ
fault_lines c s taken fault =
    fault_line s.bus c.registers.pc fault ++ raised_text s taken (exception_of s.exceptions c.run.side fault)

abbrev pub fault_part : Core → State → ℕ → Option Fault → List ℕ
fault_part c s taken None = []
fault_part c s taken (Some fault) = fault_lines c s taken fault

-- ---- a return that is refused, or ends in an entry

-- the exception that a refused return raises
abbrev pub refusal_exception : ExceptionsValue → Core → ℕ → Refusal → Slot
refusal_exception e c value (Value fault) = exception_of e c.run.side fault
refusal_exception e c value (Frame fault) = frame_exception e (side_of_bit (returning_by c.run.side value).secure) fault
refusal_exception e c value (Mode side) = exception_of e side (InvPc side)

unfoldable pub refusal_lines : Core → State → ℕ → ℕ → Refusal → List ℕ
refusal_lines c s taken value refusal =
    refused_line c s.core value refusal ++ raised_text s taken (refusal_exception s.exceptions c value refusal)

abbrev pub refusal_part : Core → State → ℕ → ℕ → Option Refusal → List ℕ
refusal_part c s taken value None = []
refusal_part c s taken value (Some refusal) = refusal_lines c s taken value refusal

-- the return of an exception; that of a call is told elsewhere
abbrev pub is_return : Option ℕ → Bool
is_return None = false
is_return (Some value) = is_exc_return value

unfoldable pub return_lines : Core → State → ℕ → ℕ → Option Refusal → List ℕ
return_lines c s taken value refused = exc_return_line value ++ refusal_part c s taken value refused

abbrev pub return_part : Core → State → ℕ → Cause → Handling → List ℕ
return_part c s taken cause h =
    if is_return h.value && not (is_resumed cause) then return_lines c s taken (unwrap_or h.value 0) h.refused else []

-- ---- vectors

abbrev pub vector_address : Core → Slot → ℕ
vector_address c slot = wrap ((status_of slot.side c).vtor + 4 * slot.number)

unfoldable pub unread_vector : Core → Slot → List ℕ
unread_vector c slot = codes "vector of " ++ slot_text slot ++ codes " at " ++ hex_word (vector_address c slot) ++ codes " not read"

-- in a line of its own
unfoldable pub unread_line : List ℕ → Core → Slot → List ℕ → List ℕ
unread_line head c slot tail = head ++ unread_vector c slot ++ tail

-- an exception became HardFault by it
abbrev pub missing_part : Core → Option Slot → List ℕ
missing_part c None = []
missing_part c (Some slot) = unread_line (codes "    ") c slot (codes " (VECTTBL)\n")

-- the core locks by it
abbrev pub last_part : Core → Option Slot → List ℕ
last_part c None = []
last_part c (Some slot) = unread_line (codes "    lockup: ") c slot (codes "\n")

-- ---- the exception is taken

-- its priority as it counts
abbrev pub priority_text : ExceptionsValue → ℕ → List ℕ
priority_text e i = if nat_lt i places then codes ", priority " ++ signed_decimal (manual_priority (priority_of e i)) else []

-- DCRS is that of the EXC_RETURN value in LR
unfoldable pub takes_line : Core → ExceptionsValue → ℕ → List ℕ
takes_line c e taken =
    codes "    takes " ++ decimal c.registers.ipsr ++ codes " " ++ slot_text (slot_handled c) ++ priority_text e taken ++ codes ", DCRS "
    ++ flag_digit (is_set c.registers.lr exc_return_dcrs) ++ codes "\n"

-- the address of its vector, and the word there
unfoldable pub vector_line : State → List ℕ
vector_line s =
    codes "    vector " ++ hex_word (vector_address s.core (slot_handled s.core)) ++ codes " "
    ++ hex_word (known_word s.bus (vector_address s.core (slot_handled s.core))) ++ codes "\n"

-- what a handler of a side finds cleared of the code that is interrupted, which is Secure or not
abbrev pub cleared_text : Profile → Side → Bool → List ℕ
cleared_text V80 Secure secure = []
cleared_text V81 Secure secure = codes "    cleared r0-r3, r12, flags\n"
cleared_text profile NonSecure secure = if secure then codes "    cleared r0-r12, flags\n" else codes "    cleared r0-r3, r12, flags\n"

unfoldable pub taken_lines : State → ℕ → Entering → List ℕ
taken_lines s taken x = takes_line s.core s.exceptions taken ++ vector_line s ++ cleared_text s.bus.board.profile s.core.run.side x.secure

abbrev pub taken_part : State → ℕ → Cause → Entering → List ℕ
taken_part s taken cause x = if is_taken cause then taken_lines s taken x else []

-- ---- an entry

-- a tail-chain writes no basic frame
abbrev pub chain_part : Cause → Entering → List ℕ
chain_part cause x = if is_taken cause then chain_line x else []

unfoldable pub running_lines : Core → State → ℕ → Option Fault → Entering → List ℕ
running_lines c s taken fault x = interrupted_line fault c.registers.pc x ++ basic_lines c s taken x.frame

abbrev pub begin_part : Core → State → ℕ → Cause → Handling → Entering → List ℕ
begin_part c s taken cause h x = if is_return h.value then chain_part cause x else running_lines c s taken h.fault x

abbrev pub returning_of : Core → Handling → Returning
returning_of c h = returning_by c.run.side (unwrap_or h.value 0)

abbrev pub additional_part : Core → State → ℕ → Handling → Entering → List ℕ
additional_part c s taken h x =
    if has_additional x (is_return h.value) (returning_of c h)
    then additional_lines s (additional_process c x (is_return h.value) (returning_of c h)) taken x.frame
    else []

unfoldable pub frame_lines : Core → State → ℕ → Cause → Handling → Entering → List ℕ
frame_lines c s taken cause h x = begin_part c s taken cause h x ++ additional_part c s taken h x

unfoldable pub entry_lines : Core → State → ℕ → Cause → Handling → Entering → List ℕ
entry_lines c s taken cause h x =
    frame_lines c s taken cause h x ++ missing_part s.core x.vector ++ taken_part s taken cause x ++ last_part s.core x.last

abbrev pub entry_part : Core → State → ℕ → Cause → Handling → Option Entering → List ℕ
entry_part c s taken cause h None = []
entry_part c s taken cause h (Some x) = entry_lines c s taken cause h x

-- ---- all of them

unfoldable pub handled_lines : Core → State → ℕ → Cause → Handling → List ℕ
handled_lines c s taken cause h =
    fault_part c s taken h.fault ++ return_part c s taken cause h ++ entry_part c s taken cause h h.entry

abbrev pub handled_part : Core → State → Cause → Option Handling → List ℕ
handled_part c s cause None = []
handled_part c s cause (Some h) = handled_lines c s (place_taken cause s) cause h

-- by the account of a step and the state after it
unfoldable pub taken_text : Account → State → List ℕ
taken_text a s = handled_part a.core s a.ending.cause a.ending.handling
