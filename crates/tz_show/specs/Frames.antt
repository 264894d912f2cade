-- The words from a stack pointer up: those of the stack in use, and the frame that a handler returns by (DDI0553,
-- `ExceptionReturn`, `PopStack`).
use Rattle.std.specs.Prelude.{ℕ, ◌+◌, ◌*◌, Bool, ◌&&◌, if◌then◌else◌, List, [], ◌∷◌, ◌++◌, codes, slice_get}
use Rattle.tz_table.specs.declared.units.Size.TheVariants.{Word}
use Rattle.tz_model.specs.Words.{wrap}
use Rattle.tz_regs.specs.declared.parts.Core.{Core}
use Rattle.tz_regs.specs.Registers.{is_handler, sp_in}
use Rattle.tz_state.specs.Access.{is_mapped}
use Rattle.tz_state.specs.Memory.{every, word_at}
use Rattle.tz_state.specs.State.{Bus}
use Rattle.tz_frames.specs.declared.leaving.Returning.{Returning}
use Rattle.tz_frames.specs.Leave.{is_exc_return, is_well_formed, returning_by, has_callee}
use Rattle.tz_syntax.specs.Digits.{hex_word}
use Rattle.tz_syntax.specs.Names.{or_nothing}
use Rattle.tz_tell.specs.FramePointer.{frame_pointer}
use Rattle.tz_show.specs.declared.bits.BitNames.TheVariants.{ExcReturn}
use Rattle.tz_show.specs.Rows.{row, texts_below}

-- the word at an address, where regions hold all its bytes
unfoldable pub shown_word : Bus → ℕ → List ℕ
shown_word b a = if every (is_mapped b.board.regions) a Word then hex_word (word_at b.memory a) else codes "--------"

-- an address, its word, and what the word is
unfoldable pub word_text : Bus → ℕ → List ℕ → List ℕ
word_text b a label = codes "  " ++ hex_word a ++ codes "  " ++ shown_word b a ++ label ++ codes "\n"

-- ---- the stack in use

unfoldable pub stack_word_text : Bus → ℕ → ℕ → List ℕ
stack_word_text b sp k = word_text b (wrap (sp + 4 * k)) []

unfoldable pub stack_text : Core → Bus → List ℕ
stack_text c b = codes "\nStack in use\n" ++ texts_below (stack_word_text b (sp_in c)) 8

-- ---- the frame

-- the words of an additional frame, and above them those of a basic one
abbrev pub frame_labels : List (List ℕ)
frame_labels =
    codes "  integrity signature" ∷ codes "  reserved" ∷ codes "  R4" ∷ codes "  R5" ∷ codes "  R6" ∷ codes "  R7" ∷ codes "  R8"
    ∷ codes "  R9" ∷ codes "  R10" ∷ codes "  R11" ∷ codes "  R0" ∷ codes "  R1" ∷ codes "  R2" ∷ codes "  R3" ∷ codes "  R12"
    ∷ codes "  LR" ∷ codes "  return address" ∷ codes "  RETPSR" ∷ []

unfoldable pub frame_label : ℕ → List ℕ
frame_label k = or_nothing (slice_get frame_labels k)

-- a handler has an EXC_RETURN value in LR
abbrev pub has_frame : Core → Bool
has_frame c = is_handler c.registers.ipsr && (is_exc_return c.registers.lr && is_well_formed c.registers.lr)

-- the label of its first word, and how many words it has
abbrev pub frame_first : Returning → ℕ
frame_first r = if has_callee r then 0 else 10

abbrev pub frame_count : Returning → ℕ
frame_count r = if has_callee r then 18 else 8

unfoldable pub frame_word_text : Bus → ℕ → ℕ → ℕ → List ℕ
frame_word_text b sp first k = word_text b (wrap (sp + 4 * k)) (frame_label (first + k))

unfoldable pub frame_by : Core → Bus → Returning → List ℕ
frame_by c b r = texts_below (frame_word_text b (frame_pointer c r) (frame_first r)) (frame_count r)

unfoldable pub frame_text : Core → Bus → List ℕ
frame_text c b =
    if has_frame c then row (codes "\nFrame of EXC_RETURN ") c.registers.lr ExcReturn ++ frame_by c b (returning_by c.run.side c.registers.lr)
    else []
