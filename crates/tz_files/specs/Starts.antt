-- What the files of a command give, each read in the order of the words.
use Rattle.std.specs.Prelude.{ℕ, List, [], true, not}
use Rattle.tz_table.specs.declared.units.Side.{Side}
use Rattle.tz_table.specs.declared.units.Side.TheVariants.{Secure, NonSecure}
use Rattle.tz_model.specs.Board.{BoardValue}
use Rattle.tz_model.specs.Image.{ImageValue}
use Rattle.tz_model.specs.Outside.{Held}
use Rattle.tz_state.specs.State.{State}
use Rattle.tz_sem.specs.Boot.{boot}
use Rattle.tz_board.specs.Scripts.{Timed}
use Rattle.tz_snap.specs.StateFile.{SavedState}
use Rattle.tz_words.specs.StartWords.{StartWords}
use Rattle.tz_words.specs.ShowWords.{SavedWords}
use Rattle.tz_words.specs.Pair.{PairWords}
use Rattle.tz_words.specs.Dis.{DisWords}
use Rattle.tz_words.specs.Resume.{ResumeWords}
use Rattle.tz_words.specs.declared.asm.Form.{Form}
use Rattle.tz_files.specs.Told.{Told, is_demo, is_none_script, board_told, image_told, state_told, script_told, source_told}
use Rattle.tz_files.specs.Reads.{AsBoard, AsImage, AsState, AsScript, AsSource, Settled, one_file, and_file, within_limit}

-- ---- one file

abbrev pub board_files : (List ℕ → Held) → List ℕ → Settled BoardValue
board_files held name = one_file (not (is_demo name)) (record { name = name; form = AsBoard }) (board_told held name)

abbrev pub image_files : (List ℕ → Held) → BoardValue → Side → List ℕ → Settled ImageValue
image_files held b side name = one_file true (record { name = name; form = AsImage }) (image_told held b side name)

abbrev pub state_files : (List ℕ → Held) → BoardValue → List ℕ → Settled SavedState
state_files held b name = one_file true (record { name = name; form = AsState }) (state_told held b name)

abbrev pub script_files : (List ℕ → Held) → ℕ → List ℕ → Settled (List Timed)
script_files held interrupts name = one_file (not (is_none_script name)) (record { name = name; form = AsScript }) (script_told held interrupts name)

-- the file of an assembly
abbrev pub source_files : (List ℕ → Held) → Form → List ℕ → Settled (List ℕ)
source_files held form name = one_file true (record { name = name; form = AsSource }) (source_told held form name)

-- ---- a run

-- a board with its two images and its script
pub record Start : Type 0 where
  pub board : BoardValue
  pub secure : ImageValue
  pub nonsecure : ImageValue
  pub script : List Timed

-- no bytes
abbrev pub no_image : ImageValue
no_image = record { segments = [] }

-- the files up to the Secure image, and to the Non-secure one
abbrev pub secure_files : (List ℕ → Held) → StartWords → Settled Start
secure_files held w =
    and_file (board_files held w.board) true (record { name = w.secure; form = AsImage }) (λ b. image_told held b Secure w.secure)
    (λ b i. record { board = b; secure = i; nonsecure = no_image; script = [] })

abbrev pub nonsecure_files : (List ℕ → Held) → StartWords → Settled Start
nonsecure_files held w =
    and_file (secure_files held w) true (record { name = w.nonsecure; form = AsImage }) (λ s. image_told held s.board NonSecure w.nonsecure) (λ s i. record s { nonsecure = i })

abbrev pub start_files : (List ℕ → Held) → StartWords → Settled Start
start_files held w =
    and_file (nonsecure_files held w) (not (is_none_script w.script)) (record { name = w.script; form = AsScript }) (λ s. script_told held s.board.interrupts w.script)
    (λ s events. record s { script = events })

-- what begins a run: the limit of steps is tested before any file is read
abbrev pub begin_files : (List ℕ → Held) → StartWords → Settled Start
begin_files held s = within_limit s.steps (start_files held s)

abbrev pub begin_told : (List ℕ → Held) → StartWords → Told Start
begin_told held s = (begin_files held s).told

-- the machine, as it starts
abbrev pub state_of : Start → State
state_of start = boot start.board start.secure start.nonsecure

-- ---- a pair

-- a board with two Secure images, the Non-secure one and a script
pub record PairStart : Type 0 where
  pub board : BoardValue
  pub first : ImageValue
  pub second : ImageValue
  pub nonsecure : ImageValue
  pub script : List Timed

-- the files up to the first Secure image, to the second, and to the Non-secure one
abbrev pub first_files : (List ℕ → Held) → PairWords → Settled PairStart
first_files held p =
    and_file (board_files held p.board) true (record { name = p.first; form = AsImage }) (λ b. image_told held b Secure p.first)
    (λ b i. record { board = b; first = i; second = no_image; nonsecure = no_image; script = [] })

abbrev pub second_files : (List ℕ → Held) → PairWords → Settled PairStart
second_files held p =
    and_file (first_files held p) true (record { name = p.second; form = AsImage }) (λ s. image_told held s.board Secure p.second) (λ s i. record s { second = i })

abbrev pub third_files : (List ℕ → Held) → PairWords → Settled PairStart
third_files held p =
    and_file (second_files held p) true (record { name = p.nonsecure; form = AsImage }) (λ s. image_told held s.board NonSecure p.nonsecure) (λ s i. record s { nonsecure = i })

abbrev pub pair_start_files : (List ℕ → Held) → PairWords → Settled PairStart
pair_start_files held p =
    and_file (third_files held p) (not (is_none_script p.script)) (record { name = p.script; form = AsScript }) (λ s. script_told held s.board.interrupts p.script)
    (λ s events. record s { script = events })

-- the two machines, as they start
abbrev pub first_state : PairStart → State
first_state start = boot start.board start.first start.nonsecure

abbrev pub second_state : PairStart → State
second_state start = boot start.board start.second start.nonsecure

-- ---- a run that goes on

-- a board with a state, the number of steps that led to it, and a script
pub record SavedStart : Type 0 where
  pub board : BoardValue
  pub state : State
  pub step : ℕ
  pub script : List Timed

-- the files up to the state
abbrev pub kept_files : (List ℕ → Held) → ResumeWords → Settled SavedStart
kept_files held w =
    and_file (board_files held w.board) true (record { name = w.state; form = AsState }) (λ b. state_told held b w.state)
    (λ b x. record { board = b; state = x.state; step = x.step; script = [] })

abbrev pub saved_files : (List ℕ → Held) → ResumeWords → Settled SavedStart
saved_files held w =
    and_file (kept_files held w) (not (is_none_script w.script)) (record { name = w.script; form = AsScript }) (λ s. script_told held s.board.interrupts w.script)
    (λ s events. record s { script = events })

-- ---- the page of a state's file

-- the state, for the board that is read before it
abbrev pub shown_files : (List ℕ → Held) → SavedWords → Settled SavedState
shown_files held w = and_file (board_files held w.board) true (record { name = w.state; form = AsState }) (λ b. state_told held b w.state) (λ b x. x)

-- ---- a disassembly

-- the image, for the board that is read before it
abbrev pub listed_files : (List ℕ → Held) → DisWords → Settled ImageValue
listed_files held d = and_file (board_files held d.board) true (record { name = d.image; form = AsImage }) (λ b. image_told held b d.side d.image) (λ b i. i)
