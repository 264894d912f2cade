-- What files that were read say of the outside and of what is settled, and so their faults.
use Rattle.std.specs.Prelude.{◌≡◌, ℕ, ◌≤◌, Bool, List, [], Option, Some, None, Result, Ok, Err, IsTrue, codes}
use Rattle.tz_model.specs.Outside.{Held, Absent, Rose}
use Rattle.tz_elf.specs.Images.{Refusal}
use Rattle.tz_elf.specs.Images as refusals
use Rattle.tz_board.specs.BoardErrors.{refusal_of}
use Rattle.tz_board.specs.ScriptErrors.{script_refusal_of}
use Rattle.tz_elf.specs.declared.error.ElfError.{ElfError}
use Rattle.tz_elf.specs.declared.error.ElfError.TheVariants as errors
use Rattle.tz_files.specs.declared.stops.LoadError.{LoadError}
use Rattle.tz_files.specs.declared.stops.LoadError.TheVariants.{Unread, Long, Board, Image, State, Script, Source, Memory}
use Rattle.tz_files.specs.declared.files.Files.{Files}
use Rattle.tz_files.specs.declared.files.PairFiles.{PairFiles}
use Rattle.tz_files.specs.declared.files.SavedFiles.{SavedFiles}
use Rattle.tz_snap.specs.StateFile as states
use Rattle.tz_snap.specs.StateFile.{Refusal as StateRefusal}
use Rattle.tz_snap.specs.declared.error.SnapError.{SnapError}
use Rattle.tz_snap.specs.declared.error.SnapError.TheVariants as snap_errors
use Rattle.tz_asm.specs.Refusals.{Refusal as AsmRefusal}
use Rattle.tz_asm.specs.Refusals as sources
use Rattle.tz_asm.specs.declared.error.AsmError.{AsmError}
use Rattle.tz_asm.specs.declared.error.AsmError.TheVariants as asm_errors
use Rattle.tz_files.specs.Lines.{stop_line, status_of}
use Rattle.tz_files.specs.Told as stops
use Rattle.tz_files.specs.Told.{Stop, Told, TooLong, BadBoard, BadImage, BadState, BadScript, BadSource}
use Rattle.tz_files.specs.Reads.{Form, AsBoard, AsImage, AsState, AsScript, AsSource, Settled, IsOneOf}
use Rattle.tz_files.specs.Starts.{Start, PairStart, SavedStart}
use Rattle.tz_files.specs.Allowed.{Shelved, Allows, AllowsStop}

-- the refusal that an error tells; want of memory tells none
abbrev pub image_refusal : ElfError → Option Refusal
image_refusal errors.Magic = Some refusals.Magic
image_refusal errors.ClassOrOrder = Some refusals.ClassOrOrder
image_refusal errors.TypeOrMachine = Some refusals.TypeOrMachine
image_refusal errors.HeaderCut = Some refusals.HeaderCut
image_refusal (errors.SegmentCut index) = Some (refusals.SegmentCut index)
image_refusal (errors.Outside index) = Some (refusals.Outside index)
image_refusal (errors.WrongSide index) = Some (refusals.WrongSide index)
image_refusal (errors.Overlap earlier index) = Some (refusals.Overlap earlier index)
image_refusal (errors.Hex line) = Some (refusals.Hex line)
image_refusal errors.Memory = None

abbrev pub state_refusal : SnapError → Option StateRefusal
state_refusal snap_errors.Magic = Some states.Magic
state_refusal snap_errors.Board = Some states.Board
state_refusal snap_errors.Length = Some states.Length
state_refusal (snap_errors.Value index) = Some (states.Value index)
state_refusal snap_errors.Memory = None

abbrev pub source_refusal : AsmError → Option AsmRefusal
source_refusal (asm_errors.Token line) = Some (sources.Token line)
source_refusal (asm_errors.Mnemonic line) = Some (sources.Mnemonic line)
source_refusal (asm_errors.Operands line) = Some (sources.Operands line)
source_refusal (asm_errors.Range line) = Some (sources.Range line)
source_refusal (asm_errors.NoLabel line) = Some (sources.NoLabel line)
source_refusal (asm_errors.TwoLabels line) = Some (sources.TwoLabels line)
source_refusal (asm_errors.OrgBackwards line) = Some (sources.OrgBackwards line)
source_refusal (asm_errors.TooLarge line) = Some (sources.TooLarge line)
source_refusal asm_errors.Memory = None

-- a refusal is what is settled; no refusal says nothing
abbrev pub AllowsRefusal : {A E : Type 0} → Told A → (E → Stop) → Option E → Type 0
AllowsRefusal told stop None = Unit {0}
AllowsRefusal told stop (Some refusal) = AllowsStop told (stop refusal)

-- a fault of files: of one that is read
abbrev pub IsFault : {A : Type 0} → Shelved → Settled A → LoadError → Type 0
IsFault s files (Unread name) = ((form : Form) × IsOneOf files.reads (record { name = name.now; form = form })) × Rose s.before s.now × (IsTrue s.sound → s.held name.now ≡ Absent)
IsFault s files (Long name) = ((form : Form) × IsOneOf files.reads (record { name = name.now; form = form })) × AllowsStop files.told (TooLong name.now)
IsFault s files (Board name e) = IsOneOf files.reads (record { name = name.now; form = AsBoard }) × AllowsRefusal files.told (BadBoard name.now) (refusal_of e)
IsFault s files (Image name e) = IsOneOf files.reads (record { name = name.now; form = AsImage }) × AllowsRefusal files.told (BadImage name.now) (image_refusal e)
IsFault s files (State name e) = IsOneOf files.reads (record { name = name.now; form = AsState }) × AllowsRefusal files.told (BadState name.now) (state_refusal e)
IsFault s files (Script name e) = IsOneOf files.reads (record { name = name.now; form = AsScript }) × AllowsRefusal files.told (BadScript name.now) (script_refusal_of e)
IsFault s files (Source name e) = IsOneOf files.reads (record { name = name.now; form = AsSource }) × AllowsRefusal files.told (BadSource name.now) (source_refusal e)
IsFault s files Memory = Unit {0}

-- the name that a fault tells; want of memory tells none
abbrev pub name_told : LoadError → List ℕ
name_told (Unread name) = name.now
name_told (Long name) = name.now
name_told (Board name e) = name.now
name_told (Image name e) = name.now
name_told (State name e) = name.now
name_told (Script name e) = name.now
name_told (Source name e) = name.now
name_told Memory = []

-- the stop that a fault tells; want of memory tells none
abbrev pub stop_with : {E : Type 0} → (E → Stop) → Option E → Option Stop
stop_with stop None = None
stop_with stop (Some refusal) = Some (stop refusal)

abbrev pub stop_of : LoadError → Option Stop
stop_of (Unread name) = Some (stops.Unread name.now)
stop_of (Long name) = Some (TooLong name.now)
stop_of (Board name e) = stop_with (BadBoard name.now) (refusal_of e)
stop_of (Image name e) = stop_with (BadImage name.now) (image_refusal e)
stop_of (State name e) = stop_with (BadState name.now) (state_refusal e)
stop_of (Script name e) = stop_with (BadScript name.now) (script_refusal_of e)
stop_of (Source name e) = stop_with (BadSource name.now) (source_refusal e)
stop_of Memory = None

-- the code of a refusal; want of memory has none
abbrev pub code_with : {E : Type 0} → (E → List ℕ) → Option E → List ℕ
code_with code None = []
code_with code (Some refusal) = code refusal

-- the line of a fault, and its status
abbrev pub line_with : Option Stop → List ℕ
line_with None = codes "no memory\n"
line_with (Some stop) = stop_line stop

abbrev pub status_with : Option Stop → ℕ
status_with None = 7
status_with (Some stop) = status_of stop

-- the files as a start
abbrev pub start_value : Files → Start
start_value f = record { board = f.board; secure = f.secure; nonsecure = f.nonsecure; script = f.script }

abbrev pub pair_value : PairFiles → PairStart
pair_value f = record { board = f.board; first = f.first; second = f.second; nonsecure = f.nonsecure; script = f.script }

abbrev pub saved_value : SavedFiles → SavedStart
saved_value f = record { board = f.board; state = f.machine; step = f.step; script = f.script }

-- ---- how files were read

-- how a shelf stands: its word, whether that is sound, and its count of faults
pub record Standing : Type 0 where
  pub held : List ℕ → Held
  pub sound : Bool
  pub faults : ℕ

abbrev pub standing : {S : Type 0} → (S → List ℕ → Held) → (S → Bool) → (S → ℕ) → S → Standing
standing held sound faults shelf = record { held = held shelf; sound = sound shelf; faults = faults shelf }

-- the shelf before some files were read, with the counts before and after
abbrev pub between : Standing → Standing → Shelved
between old new = record { held = old.held; sound = old.sound; before = old.faults; now = new.faults }

-- the value that was read, where there is one
abbrev pub read_as : {T A : Type 0} → (T → A) → Result T LoadError → Result A LoadError
read_as value (Ok x) = Ok (value x)
read_as value (Err e) = Err e

-- what is settled allows the value, or the fault is one of the files
abbrev pub IsOfFiles : {A : Type 0} → Shelved → Settled A → Result A LoadError → Type 0
IsOfFiles s files (Ok x) = Allows files.told x
IsOfFiles s files (Err e) = IsFault s files e

-- files were read, and the shelf keeps its word
pub record IsRead {A : Type 0} (old new : Standing) (files : (List ℕ → Held) → Settled A) (result : Result A LoadError) : Type 0 where
  pub held : new.held ≡ old.held
  pub sound : new.sound ≡ old.sound
  pub later : old.faults ≤ new.faults
  pub answer : IsOfFiles (between old new) (files old.held) result
