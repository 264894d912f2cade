-- The answers of a call with what the outside had before and after it.
use Rattle.std.specs.Prelude.{◌≡◌, ◌⊎◌, ℕ, ◌+◌, Bool, List, [], length, codes, Option, Some, None, IsTrue}
use Rattle.tz_model.specs.Outside.{Held, Absent, Rose, Gains}
use Rattle.tz_words.specs.Commands.{Command, command_of, longest, names_of}
use Rattle.tz_files.specs.Told.{Stop, BadWords, TooManySteps, TooManyBack, Unread, TooLong, BadBoard, BadImage, BadState, BadScript, BadSource, TooFar, Told, Unknown, Stops, Gives}
use Rattle.tz_files.specs.Reads.{Reading, Form, IsOneOf, TellsOf}
use Rattle.tz_cli.specs.Tasks.{Task, told, reads_of, IsDone}
use Rattle.tz_files.specs.Allowed.{Allows, AllowsStop, Shelved}
use Rattle.tz_files.specs.LineTold.{GainsFront, Exceeds}
use Rattle.tz_files.specs.Lines.{stop_line, status_of, unread_line}

-- ---- the causes of stops

-- a file can't be read: it is one that is read, the shelf's count rose, and a sound shelf doesn't hold it
pub record IsUnread (files : List Reading) (s : Shelved) (name : List ℕ) : Type 0 where
  pub form : Form
  pub read : IsOneOf files (record { name = name; form = form })
  pub rose : Rose s.before s.now
  pub absent : IsTrue s.sound → s.held name ≡ Absent

-- a stop is settled, and a file that it names is read
abbrev pub IsSettled : Option Command → Shelved → Stop → Type 0
IsSettled command s stop = AllowsStop (told s.held command) stop × TellsOf (reads_of s.held command) stop

-- a stop has its cause
abbrev pub IsCaused : Option Command → Shelved → Stop → Type 0
IsCaused command s BadWords = command ≡ None
IsCaused command s TooManySteps = IsSettled command s TooManySteps
IsCaused command s TooManyBack = IsSettled command s TooManyBack
IsCaused command s (Unread name) = IsUnread (reads_of s.held command) s name
IsCaused command s (TooLong name) = IsSettled command s (TooLong name)
IsCaused command s (BadBoard name refusal) = IsSettled command s (BadBoard name refusal)
IsCaused command s (BadImage name refusal) = IsSettled command s (BadImage name refusal)
IsCaused command s (BadState name refusal) = IsSettled command s (BadState name refusal)
IsCaused command s (BadScript name refusal) = IsSettled command s (BadScript name refusal)
IsCaused command s (BadSource name refusal) = IsSettled command s (BadSource name refusal)
IsCaused command s (TooFar name) = IsSettled command s (TooFar name)

-- a line for standard error: that of a stop with its cause, or want of memory
abbrev pub IsLine : Option Command → Shelved → List ℕ → Type 0
IsLine command s line = (line ≡ codes "no memory\n") ⊎ ((stop : Stop) × (line ≡ stop_line stop) × IsCaused command s stop)

-- the room for any line on standard error
abbrev pub line_room : List (List ℕ) → ℕ
line_room words = 64 + longest words

-- ---- a call

-- what a shelf tells, with its counts before and after a call
abbrev pub shelved : {S : Type 0} → (S → List ℕ → Held) → (S → Bool) → (S → ℕ) → S → S → Shelved
shelved held sound faults old new = record { held = held old; sound = sound old; before = faults old; now = faults new }

-- what a sink tells before and after a call
pub record Sunk : Type 0 where
  pub old : Option (List ℕ)
  pub new : Option (List ℕ)
  pub space : Option ℕ
  pub before : ℕ
  pub now : ℕ

abbrev pub sunk : {S : Type 0} → (S → Option (List ℕ)) → (S → Option ℕ) → (S → ℕ) → S → S → Sunk
sunk written space faults old new = record { old = written old; new = written new; space = space old; before = faults old; now = faults new }

-- a command, the room for its lines, and the outside before and after the call
pub record Call : Type 0 where
  pub command : Option Command
  pub room : ℕ
  pub shelf : Shelved
  pub out : Sunk
  pub err : Sunk

abbrev pub told_of : Call → Told Task
told_of c = told c.shelf.held c.command

-- an answer, with what it says of the outside
pub data Answer (c : Call) (result : ℕ) : Type 0 where
  -- the text is written whole
  Done : (task : Task) → result ≡ task.status → IsDone c.command result → Allows (told_of c) task → Gains c.out.old c.out.new task.text → Gains c.err.old c.err.new [] → Answer c result
  -- the text can't be written
  Broken : (task : Task) → result ≡ 4 → Allows (told_of c) task → GainsFront c.out.old c.out.new task.text → Rose c.out.before c.out.now → Exceeds c.out.space (length task.text)
      → Gains c.err.old c.err.new [] → Answer c result
  -- the command stops, and the line says why
  Stopped : (stop : Stop) → result ≡ status_of stop → IsCaused c.command c.shelf stop → Gains c.out.old c.out.new [] → Gains c.err.old c.err.new (stop_line stop) → Answer c result
  -- there is no memory
  Wanting : result ≡ 7 → Gains c.out.old c.out.new [] → Gains c.err.old c.err.new (codes "no memory\n") → Answer c result
  -- the line can't be written
  Silent : (line : List ℕ) → result ≡ 4 → IsLine c.command c.shelf line → GainsFront c.err.old c.err.new line → Gains c.out.old c.out.new [] → Rose c.err.before c.err.now
      → Exceeds c.err.space c.room → Answer c result

-- the answer of a command, with room for a line of each of its names
abbrev pub CommandAnswer : Command → Shelved → Sunk → Sunk → ℕ → Type 0
CommandAnswer command shelf out err result =
    Answer (record { command = Some command; room = 64 + longest (names_of command); shelf = shelf; out = out; err = err }) result

-- ---- the words of the public clauses

-- a fault of the outside, or want of memory, stands in place of an answer
abbrev pub Excused : (result shelf_before shelf_now out_before out_now err_before err_now : ℕ) → Type 0
Excused result shelf_before shelf_now out_before out_now err_before err_now =
    ((result ≡ 3) × Rose shelf_before shelf_now) ⊎ (((result ≡ 4) × (Rose out_before out_now ⊎ Rose err_before err_now)) ⊎ (result ≡ 7))

-- the text of a command: that of its task, and nothing where it stops
abbrev pub IsText : Told Task → List ℕ → Type 0
IsText Unknown text = ⊥
IsText (Stops stop) text = text ≡ []
IsText (Gives task) text = text ≡ task.text

-- a refusal with this status was told on standard error, of a file that is read
pub record IsRefusedBy (told : Told Task) (files : List Reading) (result : ℕ) (old new : Option (List ℕ)) : Type 0 where
  pub stop : Stop
  pub status : result ≡ status_of stop
  pub settled : AllowsStop told stop
  pub read : TellsOf files stop
  pub line : Gains old new (stop_line stop)

-- a file that the words name can't be read, and standard error tells its name
pub record NamesUnread (words : List (List ℕ)) (held : List ℕ → Held) (sound : Bool) (before now : ℕ) (old new : Option (List ℕ)) : Type 0 where
  pub command : Command
  pub words_say : command_of words ≡ Some command
  pub name : List ℕ
  pub unread : IsUnread (reads_of held (Some command)) (record { held = held; sound = sound; before = before; now = now }) name
  pub line : Gains old new (unread_line name)

-- a line that has its cause couldn't be written on standard error, but for a front of it
pub record CutsLine (words : List (List ℕ)) (held : List ℕ → Held) (sound : Bool) (before now err_before err_now : ℕ) (old new : Option (List ℕ)) : Type 0 where
  pub line : List ℕ
  pub says : IsLine (command_of words) (record { held = held; sound = sound; before = before; now = now }) line
  pub rose : Rose err_before err_now
  pub front : GainsFront old new line

-- the statuses of a command
abbrev pub IsStatus : Option Command → ℕ → Type 0
IsStatus command result =
    IsDone command result ⊎ ((result ≡ 2) ⊎ ((result ≡ 3) ⊎ ((result ≡ 4) ⊎ ((result ≡ 5) ⊎ ((result ≡ 6) ⊎ (result ≡ 7))))))
