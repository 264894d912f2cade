-- State files (own): a state of a board with the number of steps that led to it, as words of 32 bits, the low byte of
-- each first; and what of such a file is refused.
use Rattle.std.specs.Prelude.{ℕ, ◌+◌, ◌*◌, ◌==◌, nat_lt, Bool, true, false, not, ◌&&◌, if◌then◌else◌, List, [], ◌∷◌, ◌++◌, length, drop, Option, Some, None, Result, Ok, Err}
use Rattle.tz_model.specs.Board.{BoardValue}
use Rattle.tz_model.specs.declared.board.Profile.{Profile}
use Rattle.tz_model.specs.declared.board.Profile.TheVariants.{V80, V81}
use Rattle.tz_model.specs.declared.board.Region.{Region}
use Rattle.tz_model.specs.declared.board.RegionKind.{RegionKind}
use Rattle.tz_model.specs.declared.board.RegionKind.TheVariants.{Rom, Ram}
use Rattle.tz_model.specs.declared.board.RegionSide.{RegionSide}
use Rattle.tz_model.specs.declared.board.RegionSide.TheVariants.{Secure, Nsc, NonSecure}
use Rattle.tz_state.specs.State.{State}
use Rattle.tz_fields.specs.StateWords.{state_words, word_count}
use Rattle.tz_fields.specs.ReadWords.{read_words, words_of}
use Rattle.tz_snap.specs.FileWords.{bytes_of_words}

-- the word that a state file begins with
abbrev pub magic : ℕ
magic = 0x545A5331

-- the most steps that lead to a state in a file
abbrev pub most_steps : ℕ
most_steps = 10000000

-- ---- the words of a board

abbrev pub profile_number : Profile → ℕ
profile_number V80 = 0
profile_number V81 = 1

-- 2 more where the board has a mover
abbrev pub profile_word : BoardValue → ℕ
profile_word b = profile_number b.profile + (if b.mover then 2 else 0)

abbrev pub kind_number : RegionKind → ℕ
kind_number Rom = 0
kind_number Ram = 1

abbrev pub side_number : RegionSide → ℕ
side_number Secure = 0
side_number Nsc = 1
side_number NonSecure = 2

-- the words of regions, four of each
abbrev pub region_words : List Region → List ℕ
region_words [] = []
region_words (r ∷ rs) = r.base ∷ r.size ∷ kind_number r.kind ∷ side_number r.side ∷ region_words rs

-- the words of all but the SAU's regions at boot, which the state has as they are by now
abbrev pub board_words : BoardValue → List ℕ
board_words b =
    b.secure_vtor ∷ b.nonsecure_vtor ∷ b.interrupts ∷ b.sau_regions ∷ b.mpu_secure ∷ b.mpu_nonsecure ∷ profile_word b ∷ length b.regions ∷ region_words b.regions

-- ---- the file

-- the words before those of the state
abbrev pub head_words : BoardValue → ℕ → List ℕ
head_words b n = magic ∷ n ∷ board_words b

-- the words of a state after n steps
unfoldable pub file_words : State → ℕ → List ℕ
file_words s n = head_words s.bus.board n ++ state_words s

-- the file of a state after n steps
unfoldable pub file_of : State → ℕ → List ℕ
file_of s n = bytes_of_words (file_words s n)

-- ---- reading

-- what a file holds
pub record SavedState : Type 0 where
  pub state : State
  pub step : ℕ

-- why a file is refused: it doesn't begin as a state file; its board is another; its length is another; or a word,
-- counted from 0, is none that can stand there
pub data Refusal : Type 0 where
  Magic : Refusal
  Board : Refusal
  Length : Refusal
  Value : ℕ → Refusal

-- a list has all words of another at its front
abbrev pub begins_with : List ℕ → List ℕ → Bool
begins_with [] words = true
begins_with (w ∷ ws) [] = false
begins_with (w ∷ ws) (x ∷ xs) = w == x && begins_with ws xs

-- the number of steps in words that begin as those of a state file
abbrev pub step_in : List ℕ → Option ℕ
step_in [] = None
step_in (w ∷ []) = None
step_in (w ∷ n ∷ words) = if w == magic then Some n else None

-- how many words stand before those of the state
abbrev pub head_count : BoardValue → ℕ
head_count b = 2 + length (board_words b)

-- how many bytes the files of a board have
abbrev pub file_length : BoardValue → ℕ
file_length b = 4 * (head_count b + word_count b)

-- what was read of the words of the state, in a file whose head has so many words
abbrev pub behind_head : ℕ → ℕ → Result State ℕ → Result SavedState Refusal
behind_head head n (Ok s) = Ok (record { state = s; step = n })
behind_head head n (Err i) = Err (Value (head + i))

-- what a file holds whose board and length were tested; n is the number of steps in it
abbrev pub values_of : BoardValue → ℕ → List ℕ → Result SavedState Refusal
values_of b n words =
    if nat_lt most_steps n then Err (Value 1) else behind_head (head_count b) n (read_words b (drop (head_count b) words))

-- what a file holds that begins as a state file with so many steps, or doesn't
abbrev pub saved_by : BoardValue → List ℕ → Option ℕ → Result SavedState Refusal
saved_by b bytes None = Err Magic
saved_by b bytes (Some n) =
    if not (begins_with (board_words b) (drop 2 (words_of bytes))) then Err Board
    else if not (length bytes == file_length b) then Err Length
    else values_of b n (words_of bytes)

-- what a file holds, or the first reason to refuse it
unfoldable pub saved_of : BoardValue → List ℕ → Result SavedState Refusal
saved_of b bytes = saved_by b bytes (step_in (words_of bytes))
