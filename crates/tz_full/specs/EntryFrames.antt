-- The frames of an entry: what it interrupts, the basic frame, and the additional one; each as it was written, or why it
-- wasn't (DDI0553, `PushStack`, `PushCalleeStack`).
use Rattle.std.specs.Prelude.{ℕ, Bool, true, ◌&&◌, ◌||◌, not, if◌then◌else◌, Option, Some, None, List, ◌++◌, codes}
use Rattle.tz_table.specs.declared.units.Side.{Side}
use Rattle.tz_table.specs.declared.units.Side.TheVariants.{Secure, NonSecure}
use Rattle.tz_model.specs.declared.report.Fault.{Fault}
use Rattle.tz_regs.specs.declared.parts.Core.{Core}
use Rattle.tz_regs.specs.Banks.{stacks_of}
use Rattle.tz_regs.specs.Registers.{uses_process, sp_of, sp_in}
use Rattle.tz_state.specs.State.{State}
use Rattle.tz_frames.specs.declared.frame.StackFault.{StackFault}
use Rattle.tz_frames.specs.declared.frame.StackFault.TheVariants.{Limit, Access, Signature}
use Rattle.tz_frames.specs.declared.leaving.Returning.{Returning}
use Rattle.tz_frames.specs.Status.{frame_exception}
use Rattle.tz_frames.specs.Stack.{splim_of, basic_base}
use Rattle.tz_frames.specs.Leave.{side_of_bit}
use Rattle.tz_sem.specs.Taking.{goes_on_at}
use Rattle.tz_syntax.specs.Digits.{hex_word}
use Rattle.tz_full.specs.Words.{side_text, mode_text, stack_text, place_text}
use Rattle.tz_full.specs.FaultNames.{word_text}
use Rattle.tz_full.specs.Escalation.{raised_text}
use Rattle.tz_full.specs.FrameLines.{frame_text, additional_text}
use Rattle.tz_frames.specs.declared.entering.Entering.{Entering}
use Rattle.tz_frames.specs.declared.entering.FrameFault.{FrameFault}

-- ---- what is interrupted

-- the instruction that would have run, that which faulted, or the one behind SVC
abbrev pub back_of : Option Fault → ℕ → ℕ
back_of None pc = pc
back_of (Some fault) pc = goes_on_at fault pc

unfoldable pub interrupted_line : Option Fault → ℕ → Entering → List ℕ
interrupted_line fault pc x =
    codes "    interrupted " ++ place_text (back_of fault pc) (side_of_bit x.secure) x.thread ++ codes "\n"

-- what stands interrupted already
unfoldable pub chain_line : Entering → List ℕ
chain_line x = codes "    tail-chain " ++ side_text (side_of_bit x.secure) ++ codes " " ++ mode_text x.thread ++ codes "\n"

-- ---- limits

abbrev pub limit_name : Side → Bool → List ℕ
limit_name Secure process = if process then codes "PSPLIM_S" else codes "MSPLIM_S"
limit_name NonSecure process = if process then codes "PSPLIM_NS" else codes "MSPLIM_NS"

-- the limit of a stack, and its value
unfoldable pub limit_text : Core → Side → Bool → List ℕ
limit_text c side process = limit_name side process ++ codes " " ++ hex_word (splim_of process (stacks_of side c))

-- ---- the basic frame

-- the running code's PSP is in use
abbrev pub basic_process : Core → Bool
basic_process c = uses_process c.registers.ipsr (stacks_of c.run.side c)

unfoldable pub basic_written : Core → State → List ℕ
basic_written c s = codes "    " ++ frame_text s.bus c.run.side (basic_process c) (basic_base (sp_in c)) ++ codes "\n"

unfoldable pub basic_limit : Core → Side → List ℕ
basic_limit c of =
    codes "STKOF " ++ side_text of ++ codes ", " ++ hex_word (basic_base (sp_in c)) ++ codes " is below " ++ limit_text c c.run.side (basic_process c)

unfoldable pub basic_why : Core → StackFault → List ℕ
basic_why c (Limit of) = basic_limit c of
basic_why c (Access fault) = word_text true fault
basic_why c Signature = codes "INVIS"

unfoldable pub basic_unwritten : Core → StackFault → List ℕ
basic_unwritten c fault = codes "    frame not written: " ++ basic_why c fault ++ codes "\n"

unfoldable pub basic_faulted : Core → State → ℕ → StackFault → List ℕ
basic_faulted c s taken fault =
    basic_unwritten c fault ++ raised_text s taken (frame_exception s.exceptions c.run.side fault)

-- of the core before the step, which was interrupted
abbrev pub basic_lines : Core → State → ℕ → Option FrameFault → List ℕ
basic_lines c s taken None = basic_written c s
basic_lines c s taken (Some f) = if f.additional then basic_written c s else basic_faulted c s taken f.fault

-- ---- the additional frame

-- an entry tried to write it: a choice called for it, and it was neither there already nor written in vain before
abbrev pub has_additional : Entering → Bool → Returning → Bool
has_additional x chain r = x.needed_additional && (not chain || (r.es && r.dcrs))

-- on PSP of the Secure side: by CONTROL.SPSEL, which a return has set by its value
abbrev pub additional_process : Core → Entering → Bool → Returning → Bool
additional_process c x chain r = x.thread && (if chain then r.process else c.stacks_s.spsel)

-- its stack pointer is where it began
unfoldable pub additional_written : State → Bool → List ℕ
additional_written s process = codes "    " ++ additional_text s.bus Secure process (sp_of process s.core.stacks_s) ++ codes "\n"

unfoldable pub additional_why : Core → Bool → StackFault → List ℕ
additional_why c process (Limit of) = codes "STKOF " ++ side_text of ++ codes ", it would begin below " ++ limit_text c Secure process
additional_why c process (Access fault) = word_text true fault
additional_why c process Signature = codes "INVIS"

unfoldable pub additional_unwritten : Core → Bool → StackFault → List ℕ
additional_unwritten c process fault = codes "    additional frame not written: " ++ additional_why c process fault ++ codes "\n"

unfoldable pub additional_faulted : State → Bool → ℕ → StackFault → List ℕ
additional_faulted s process taken fault =
    additional_unwritten s.core process fault ++ raised_text s taken (frame_exception s.exceptions Secure fault)

-- behind a frame that has faulted a fault of this one changes nothing
unfoldable pub additional_uncounted : Bool → ℕ → List ℕ
additional_uncounted process base =
    codes "    additional frame at " ++ stack_text Secure process ++ codes " " ++ hex_word base
    ++ codes ": a fault of it doesn't count\n"

abbrev pub additional_lines : State → Bool → ℕ → Option FrameFault → List ℕ
additional_lines s process taken None = additional_written s process
additional_lines s process taken (Some f) = if f.additional then additional_faulted s process taken f.fault else additional_uncounted process (sp_of process s.core.stacks_s)
