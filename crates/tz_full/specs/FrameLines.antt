-- Frames on stacks, by what memory has of them (DDI0553, `PushStack`, `PushCalleeStack`).
use Rattle.std.specs.Prelude.{ℕ, ◌+◌, ◌*◌, Bool, if◌then◌else◌, List, [], ◌∷◌, ◌++◌, codes}
use Rattle.tz_table.specs.declared.units.Side.{Side}
use Rattle.tz_table.specs.declared.units.Size.TheVariants.{Word}
use Rattle.tz_model.specs.Words.{wrap}
use Rattle.tz_state.specs.Access.{is_mapped}
use Rattle.tz_state.specs.Memory.{every, word_at}
use Rattle.tz_state.specs.State.{Bus}
use Rattle.tz_syntax.specs.Digits.{hex_word}
use Rattle.tz_full.specs.Words.{stack_text, register_is, registers_text}

-- the word at an address, and 0 where regions don't hold all its bytes
unfoldable pub known_word : Bus → ℕ → ℕ
known_word b a = if every (is_mapped b.board.regions) a Word then word_at b.memory a else 0

-- the word of a frame with this number
abbrev pub frame_word : Bus → ℕ → ℕ → ℕ
frame_word b base k = known_word b (wrap (base + 4 * k))

abbrev pub four_words : Bus → ℕ → ℕ → List ℕ
four_words b base k = frame_word b base k ∷ frame_word b base (k + 1) ∷ frame_word b base (k + 2) ∷ frame_word b base (k + 3) ∷ []

-- which frame, its stack and where it begins
unfoldable pub frame_head : List ℕ → Side → Bool → ℕ → List ℕ
frame_head name side process base = name ++ stack_text side process ++ codes " " ++ hex_word base

-- R0 to R3, R12, LR, the return address and RETPSR
unfoldable pub basic_words_text : Bus → ℕ → List ℕ
basic_words_text b base =
    registers_text 0 (four_words b base 0) ++ register_is 12 (frame_word b base 4) ++ register_is 14 (frame_word b base 5)
    ++ register_is 15 (frame_word b base 6) ++ codes " retpsr=" ++ hex_word (frame_word b base 7)

-- the signature, the word above it, and R4 to R11
unfoldable pub additional_words_text : Bus → ℕ → List ℕ
additional_words_text b base =
    codes " " ++ hex_word (frame_word b base 0) ++ codes " " ++ hex_word (frame_word b base 1) ++ registers_text 4 (four_words b base 2)
    ++ registers_text 8 (four_words b base 6)

-- a basic frame on a stack of a side, PSP with `process`, from its base up
unfoldable pub frame_text : Bus → Side → Bool → ℕ → List ℕ
frame_text b side process base = frame_head (codes "frame ") side process base ++ basic_words_text b base

unfoldable pub additional_text : Bus → Side → Bool → ℕ → List ℕ
additional_text b side process base = frame_head (codes "additional frame ") side process base ++ additional_words_text b base
