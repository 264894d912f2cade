-- What a shelf's word settles of one file: nothing, that the command stops, and why, or what the file gives.
use Rattle.std.specs.Prelude.{ℕ, nat_lt, Bool, if◌then◌else◌, List, [], length, codes, Result, Ok, Err}
use Rattle.std.specs.Str.{bytes_eq}
use Rattle.tz_table.specs.declared.units.Side.{Side}
use Rattle.tz_model.specs.Board.{BoardValue}
use Rattle.tz_model.specs.Image.{ImageValue}
use Rattle.tz_model.specs.Outside.{Held, Untold, Absent, Holds}
use Rattle.tz_board.specs.Demo.{demo}
use Rattle.tz_board.specs.Boards.{BoardRefusal, board_of}
use Rattle.tz_board.specs.Scripts.{Timed, ScriptRefusal, script_of}
use Rattle.tz_elf.specs.Images.{Refusal, image_of}
use Rattle.tz_snap.specs.StateFile.{SavedState, saved_of}
use Rattle.tz_snap.specs.StateFile.{Refusal as StateRefusal}
use Rattle.tz_elf.specs.PlainImage.{plain_text}
use Rattle.tz_elf.specs.ElfImage.{elf_bytes}
use Rattle.tz_asm.specs.Refusals.{◌>>=◌, Refusal as AsmRefusal}
use Rattle.tz_asm.specs.Listing.{listed}
use Rattle.tz_asm.specs.Told.{assembled}
use Rattle.tz_words.specs.declared.asm.Form.{Form}
use Rattle.tz_words.specs.declared.asm.Form.TheVariants.{Hex, Elf, Listing}

-- why a command stops before it begins
pub data Stop : Type 0 where
  BadWords : Stop
  TooManySteps : Stop
  -- more steps are undone than can be
  TooManyBack : Stop
  Unread : (name : List ℕ) → Stop
  TooLong : (name : List ℕ) → Stop
  BadBoard : (name : List ℕ) (refusal : BoardRefusal) → Stop
  BadImage : (name : List ℕ) (refusal : Refusal) → Stop
  BadState : (name : List ℕ) (refusal : StateRefusal) → Stop
  BadScript : (name : List ℕ) (refusal : ScriptRefusal) → Stop
  BadSource : (name : List ℕ) (refusal : AsmRefusal) → Stop
  -- the steps are too many behind those that a state file tells
  TooFar : (name : List ℕ) → Stop

-- what is settled: nothing, where the shelf doesn't tell; that the command stops; or a value
pub data Told (A : Type 0) : Type 0 where
  Unknown : Told A
  Stops : Stop → Told A
  Gives : A → Told A

-- one thing is settled after another
abbrev pub told_then : {A B : Type 0} → Told A → (A → Told B) → Told B
told_then Unknown next = Unknown
told_then (Stops stop) next = Stops stop
told_then (Gives x) next = next x

-- limits of files, in bytes: 64 KiB, 8 MiB, 1 MiB and 1 MiB
abbrev pub board_limit : ℕ
board_limit = 65536

abbrev pub image_limit : ℕ
image_limit = 8388608

abbrev pub script_limit : ℕ
script_limit = 1048576

abbrev pub source_limit : ℕ
source_limit = 1048576

abbrev pub step_limit : ℕ
step_limit = 10000000

-- the most steps that are undone
abbrev pub back_limit : ℕ
back_limit = 1000

-- the bytes of a file of at most so many bytes
abbrev pub file_with : List ℕ → ℕ → Held → Told (List ℕ)
file_with name limit Untold = Unknown
file_with name limit Absent = Stops (Unread name)
file_with name limit (Holds bytes) = if nat_lt limit (length bytes) then Stops (TooLong name) else Gives bytes

-- what a grammar makes of bytes
abbrev pub graded : {A E : Type 0} → (E → Stop) → Result A E → Told A
graded stop (Ok x) = Gives x
graded stop (Err refusal) = Stops (stop refusal)

-- the built-in board, which is no file
abbrev pub is_demo : List ℕ → Bool
is_demo name = bytes_eq name (codes "@demo")

unfoldable pub board_file : (List ℕ → Held) → List ℕ → Told BoardValue
board_file held name = told_then (file_with name board_limit (held name)) (λ bytes. graded (BadBoard name) (board_of bytes))

unfoldable pub board_told : (List ℕ → Held) → List ℕ → Told BoardValue
board_told held name = if is_demo name then Gives demo else board_file held name

unfoldable pub image_told : (List ℕ → Held) → BoardValue → Side → List ℕ → Told ImageValue
image_told held b side name = told_then (file_with name image_limit (held name)) (λ bytes. graded (BadImage name) (image_of bytes b side))

-- a state with the number of steps that led to it; its file has the limit of an image
unfoldable pub state_told : (List ℕ → Held) → BoardValue → List ℕ → Told SavedState
state_told held b name = told_then (file_with name image_limit (held name)) (λ bytes. graded (BadState name) (saved_of b bytes))

-- the empty script, which is no file
abbrev pub is_none_script : List ℕ → Bool
is_none_script name = bytes_eq name (codes "@none")

unfoldable pub script_file : (List ℕ → Held) → ℕ → List ℕ → Told (List Timed)
script_file held interrupts name = told_then (file_with name script_limit (held name)) (λ bytes. graded (BadScript name) (script_of bytes interrupts))

unfoldable pub script_told : (List ℕ → Held) → ℕ → List ℕ → Told (List Timed)
script_told held interrupts name = if is_none_script name then Gives [] else script_file held interrupts name

-- what is written of a source in a form: the image of its segments, or its listing
unfoldable pub assembly_in : Form → List ℕ → Result (List ℕ) AsmRefusal
assembly_in Hex source = assembled source >>= (λ segments. Ok (plain_text segments))
assembly_in Elf source = assembled source >>= (λ segments. Ok (elf_bytes segments))
assembly_in Listing source = listed source

-- what an assembly writes
unfoldable pub source_told : (List ℕ → Held) → Form → List ℕ → Told (List ℕ)
source_told held form name = told_then (file_with name source_limit (held name)) (λ bytes. graded (BadSource name) (assembly_in form bytes))
