-- Gateways, calls between the sides, and returns: what of them the step has made, by its account, its report and the
-- state after it.
use Rattle.std.specs.Prelude.{ℕ, ◌+◌, ◌-◌, ◌%◌, ◌^◌, Bool, not, if◌then◌else◌, List, [], ◌++◌, codes, decimal, Option, Some, None}
use Rattle.tz_table.specs.declared.units.Side.{Side}
use Rattle.tz_table.specs.declared.units.Side.TheVariants.{Secure, NonSecure}
use Rattle.tz_table.specs.declared.units.Size.TheVariants.{Word}
use Rattle.tz_model.specs.declared.report.Report.{Report}
use Rattle.tz_model.specs.declared.report.StepKind.{StepKind}
use Rattle.tz_model.specs.declared.report.StepKind.TheVariants.{Ran}
use Rattle.tz_model.specs.Words.{wrap}
use Rattle.tz_regs.specs.declared.parts.Core.{Core}
use Rattle.tz_regs.specs.Registers.{is_handler, pointer_of}
use Rattle.tz_state.specs.Access.{is_mapped}
use Rattle.tz_state.specs.Memory.{every, word_at}
use Rattle.tz_state.specs.State.{Bus, State}
use Rattle.tz_frames.specs.declared.leaving.Returning.{Returning}
use Rattle.tz_frames.specs.Gate.{is_fnc_return, return_base}
use Rattle.tz_frames.specs.Leave.{has_callee, returning_by, side_of_bit}
use Rattle.tz_frames.specs.Stack.{additional_frame_size}
use Rattle.tz_sem.specs.declared.ending.Cause.{Cause}
use Rattle.tz_sem.specs.declared.ending.Cause.TheVariants.{Went, Called, CameBack, Resumed}
use Rattle.tz_syntax.specs.Digits.{hex_word}
use Rattle.tz_tell.specs.FramePointer.{frame_pointer, frame_uses_process}
use Rattle.tz_sem.specs.declared.account.Account.{Account}
use Rattle.tz_full.specs.FrameLines.{frame_text, additional_text}
use Rattle.tz_full.specs.RefusalLines.{exc_return_line}
use Rattle.tz_full.specs.LoadLines.{value_in, held_text}
use Rattle.tz_full.specs.Instruction.{returning_core}
use Rattle.tz_full.specs.Words.{place_text}

-- ---- SG

-- Non-secure code ran on into Secure code, which SG alone does
unfoldable pub gateway_text : ℕ → State → List ℕ
gateway_text pc s = codes "    SG from " ++ hex_word pc ++ codes ": Secure code goes on at " ++ hex_word s.core.registers.pc ++ codes "\n"

abbrev pub entered_by : Side → Side → StepKind → State → List ℕ
entered_by NonSecure Secure (Ran pc code) s = gateway_text pc s
entered_by start end kind s = []

-- ---- the frame of a call

-- the number in it
abbrev pub number_text : Bus → ℕ → List ℕ
number_text b a = if every (is_mapped b.board.regions) a Word then decimal (word_at b.memory a % 2 ^ 9) else codes "--------"

unfoldable pub call_frame_text : Bus → ℕ → List ℕ
call_frame_text b base =
    codes "call frame " ++ hex_word base ++ codes ": return address " ++ held_text b Word base ++ codes ", IPSR " ++ number_text b (wrap (base + 4))

-- BLXNS has left it at the Secure stack pointer
unfoldable pub called_text : Account → State → List ℕ
called_text t s = codes "    " ++ call_frame_text s.bus (pointer_of t.core.registers.ipsr s.core.stacks_s) ++ codes "\n"

-- ---- FNC_RETURN

-- the frame at the stack pointer from which code came back; where it was refused, that of the Secure side while
-- Non-secure code ran, and nothing of Secure code, which may have popped the value
abbrev pub came_from : Cause → Side → Core → Core → Option ℕ
came_from CameBack side before returning = Some (return_base returning)
came_from cause NonSecure before returning = Some (return_base before)
came_from cause Secure before returning = None

abbrev pub from_call_text : Bus → Option ℕ → List ℕ
from_call_text b None = []
from_call_text b (Some base) = codes ": " ++ call_frame_text b base

unfoldable pub fnc_text : Account → Report → State → ℕ → List ℕ
fnc_text t r s value =
    codes "    FNC_RETURN " ++ hex_word value ++ from_call_text s.bus (came_from t.ending.cause t.core.run.side t.core (returning_core t r))
    ++ codes "\n"

abbrev pub fnc_by : Account → Report → State → Option ℕ → List ℕ
fnc_by t r s None = []
fnc_by t r s (Some value) = if is_fnc_return value then fnc_text t r s value else []

-- ---- the return of an exception

abbrev pub basic_from_text : Bus → Side → Bool → ℕ → List ℕ
basic_from_text b side process base = codes "    from " ++ frame_text b side process base ++ codes "\n"

abbrev pub additional_from_text : Bus → Side → Bool → ℕ → List ℕ
additional_from_text b side process base = codes "    from " ++ additional_text b side process base ++ codes "\n"

-- the additional frame first, and the basic frame above it
abbrev pub frames_from : Bus → Side → Bool → ℕ → Bool → List ℕ
frames_from b side process base additional =
    if additional
    then additional_from_text b side process base ++ basic_from_text b side process (wrap (base + additional_frame_size))
    else basic_from_text b side process base

unfoldable pub frames_read : Bus → Core → Returning → List ℕ
frames_read b c r = frames_from b (side_of_bit r.secure) (frame_uses_process c r) (frame_pointer c r) (has_callee r)

-- where the code goes on that the exception had interrupted
unfoldable pub goes_on_text : Core → List ℕ
goes_on_text c = codes "    goes on at " ++ place_text c.registers.pc c.run.side (not (is_handler c.registers.ipsr)) ++ codes "\n"

abbrev pub resumed_with : Account → Report → State → ℕ → List ℕ
resumed_with t r s value =
    exc_return_line value ++ frames_read s.bus (returning_core t r) (returning_by t.core.run.side value) ++ goes_on_text s.core

abbrev pub resumed_by : Account → Report → State → Option ℕ → List ℕ
resumed_by t r s None = []
resumed_by t r s (Some value) = resumed_with t r s value

abbrev pub resumed_at : Account → Report → State → Cause → List ℕ
resumed_at t r s Resumed = resumed_by t r s (value_in t.ending.handling)
resumed_at t r s cause = []

unfoldable pub resumed_text : Account → Report → State → List ℕ
resumed_text t r s = resumed_at t r s t.ending.cause

-- ---- all of it but the return of an exception

-- code went on, or called the other side
abbrev pub went_by : Account → Report → State → Cause → List ℕ
went_by t r s Went = entered_by r.start r.end r.kind s
went_by t r s Called = called_text t s
went_by t r s cause = []

unfoldable pub ways_text : Account → Report → State → List ℕ
ways_text t r s = went_by t r s t.ending.cause ++ fnc_by t r s (value_in t.ending.handling)
