-- The value by which an exception returns, and why it is refused (DDI0553, EXC_RETURN, `ValidateExceptionReturn`).
use Rattle.std.specs.Prelude.{ℕ, ◌/◌, ◌%◌, ◌^◌, ◌==◌, Bool, false, ◌&&◌, not, if◌then◌else◌, List, ◌++◌, codes, decimal}
use Rattle.tz_model.specs.declared.report.Fault.{Fault}
use Rattle.tz_model.specs.Words.{is_nonsecure_side}
use Rattle.tz_regs.specs.declared.parts.Core.{Core}
use Rattle.tz_regs.specs.Banks.{stacks_of}
use Rattle.tz_regs.specs.Registers.{sp_of}
use Rattle.tz_frames.specs.declared.frame.StackFault.{StackFault}
use Rattle.tz_frames.specs.declared.frame.StackFault.TheVariants.{Limit, Access, Signature}
use Rattle.tz_frames.specs.declared.leaving.Returning.{Returning}
use Rattle.tz_frames.specs.ReturnBits.{exc_return_es, exc_return_spsel, exc_return_mode, exc_return_ftype, exc_return_dcrs, exc_return_s}
use Rattle.tz_frames.specs.Leave.{is_set, returning_by, side_of_bit}
use Rattle.tz_tell.specs.FramePointer.{frame_uses_process}
use Rattle.tz_syntax.specs.Digits.{hex_word}
use Rattle.tz_full.specs.Words.{side_text, mode_text}
use Rattle.tz_full.specs.FaultNames.{fault_name, word_text}
use Rattle.tz_frames.specs.declared.leaving.Refusal.{Refusal}
use Rattle.tz_frames.specs.declared.leaving.Refusal.TheVariants.{Value, Frame, Mode}

-- ---- the value

abbrev pub flag_digit : Bool → List ℕ
flag_digit on = if on then codes "1" else codes "0"

-- its bits in words
unfoldable pub bits_text : ℕ → List ℕ
bits_text value =
    codes "ES " ++ flag_digit (is_set value exc_return_es) ++ codes " S " ++ flag_digit (is_set value exc_return_s) ++ codes " DCRS "
    ++ flag_digit (is_set value exc_return_dcrs)

unfoldable pub exc_return_line : ℕ → List ℕ
exc_return_line value =
    codes "    EXC_RETURN " ++ hex_word value ++ codes ": " ++ bits_text value ++ codes " " ++ mode_text (is_set value exc_return_mode) ++ codes " SPSEL "
    ++ flag_digit (is_set value exc_return_spsel) ++ codes "\n"

-- ---- the check that refuses the value

-- what is left where the others pass: the exception of IPSR isn't active on the side of ES
unfoldable pub inactive_text : Core → ℕ → List ℕ
inactive_text c value =
    codes "no exception " ++ decimal c.registers.ipsr ++ codes " " ++ side_text (side_of_bit (returning_by c.run.side value).es) ++ codes " is active"

-- bits 23:7 are ones, bit 1 is zero, FType is one; Non-secure code has ES of 0 and DCRS of 1
unfoldable pub check_text : Core → ℕ → List ℕ
check_text c value =
    if not (value / 2 ^ 7 % 2 ^ 17 == 0x1FFFF) then codes "bits 23 to 7 are not ones"
    else if is_set value 1 then codes "bit 1 is 1"
    else if not (is_set value exc_return_ftype) then codes "FType is 0"
    else if is_nonsecure_side c.run.side && is_set value exc_return_es then codes "Non-secure code returns with ES 1"
    else if is_nonsecure_side c.run.side && not (is_set value exc_return_dcrs) then codes "Non-secure code returns with DCRS 0"
    else inactive_text c value

-- ---- the frame

-- a refused frame stands where its stack pointer still is
abbrev pub frame_at : Core → Core → Returning → ℕ
frame_at before after r = sp_of (frame_uses_process before r) (stacks_of (side_of_bit r.secure) after)

unfoldable pub unread_word : Fault → List ℕ
unread_word fault = codes "word of the frame, " ++ word_text false fault

unfoldable pub unsigned_text : ℕ → List ℕ
unsigned_text base = codes "frame at " ++ hex_word base ++ codes ", INVIS"

unfoldable pub unread_text : Core → Core → Returning → StackFault → List ℕ
unread_text before after r (Limit of) = codes "frame below its limit"
unread_text before after r (Access fault) = unread_word fault
unread_text before after r Signature = unsigned_text (frame_at before after r)

-- ---- its line

unfoldable pub reason_text : Core → Core → ℕ → Refusal → List ℕ
reason_text before after value (Value fault) = fault_name fault ++ codes ", " ++ check_text before value
reason_text before after value (Frame fault) = unread_text before after (returning_by before.run.side value) fault
reason_text before after value (Mode side) = codes "INVPC, the frame's mode is not " ++ mode_text (is_set value exc_return_mode)

-- by the cores before and after the step
unfoldable pub refused_line : Core → Core → ℕ → Refusal → List ℕ
refused_line before after value refusal = codes "    refused: " ++ reason_text before after value refusal ++ codes "\n"
