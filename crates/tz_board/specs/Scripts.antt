-- Script files (own): the events that a file sets pending and when, or the first reason to refuse it.
use Rattle.std.specs.Prelude.{ℕ, ◌+◌, ◌-◌, ◌*◌, ◌==◌, nat_le, nat_lt, Bool, true, false, ◌&&◌, if◌then◌else◌, List, [], ◌∷◌, ◌++◌, length, map, filter, codes, Option, Some, None, option_map, Result, Ok, Err, IsTrue}
use Rattle.std.specs.Char.{is_ascii_digit}
use Rattle.std.specs.Str.{bytes_eq}
use Rattle.tz_model.specs.Board.{within}
use Rattle.tz_model.specs.declared.report.ScriptEvent.{ScriptEvent}
use Rattle.tz_model.specs.declared.report.ScriptEvent.TheVariants.{Irq, Nmi}

-- an event with its step
abbrev pub Timed : Type 0
Timed = ℕ × ScriptEvent

-- the most events of a script
abbrev pub most_events : ℕ
most_events = 10000

-- from a first step on, the steps of events stay or grow
abbrev pub follow : ℕ → List Timed → Bool
follow step [] = true
follow step (t ∷ more) = nat_le step t.0 && follow t.0 more

-- what every script meets
pub record IsScript (events : List Timed) : Type 0 where
  pub few : IsTrue (nat_le (length events) most_events)
  pub in_order : IsTrue (follow 0 events)

-- the events of a step, in their order
unfoldable pub due_at : ℕ → List Timed → List ScriptEvent
due_at step events = map (λ t. t.1) (filter (λ t. t.0 == step) events)

-- why a script is refused, with the number of the line
pub data ScriptRefusal : Type 0 where
  BadLine : ℕ → ScriptRefusal
  OutOfOrder : ℕ → ScriptRefusal
  NoSuchInterrupt : ℕ → ScriptRefusal
  TooMany : ScriptRefusal

-- the bytes without the carriage returns that stand before a line feed
unfoldable pub without_returns : List ℕ → List ℕ
without_returns [] = []
without_returns (b ∷ []) = b ∷ []
without_returns (b ∷ c ∷ more) =
    if (b == 13) && (c == 10) then without_returns (c ∷ more) else b ∷ without_returns (c ∷ more)

-- a byte at the front of the first piece
abbrev pub onto_first_piece : ℕ → List (List ℕ) → List (List ℕ)
onto_first_piece b [] = (b ∷ []) ∷ []
onto_first_piece b (piece ∷ more) = (b ∷ piece) ∷ more

-- the pieces between the separators
unfoldable pub pieces : ℕ → List ℕ → List (List ℕ)
pieces separator [] = [] ∷ []
pieces separator (b ∷ more) =
    if b == separator then [] ∷ pieces separator more else onto_first_piece b (pieces separator more)

-- the lines of a text; one that ends in a line feed has an empty piece behind it
unfoldable pub script_lines : List ℕ → List (List ℕ)
script_lines bytes = pieces 10 (without_returns bytes)

-- a piece that isn't empty
abbrev pub is_part : List ℕ → Bool
is_part [] = false
is_part (b ∷ more) = true

-- the parts of a line, between spaces
unfoldable pub parts_of : List ℕ → List (List ℕ)
parts_of line = filter is_part (pieces 32 line)

-- the number that decimal digits make, after those that made `n`
unfoldable pub digits_from : ℕ → List ℕ → Option ℕ
digits_from n [] = Some n
digits_from n (b ∷ more) = if is_ascii_digit b then digits_from (10 * n + (b - 48)) more else None

-- a number of 1 to 8 decimal digits
unfoldable pub number_of : List ℕ → Option ℕ
number_of part = if within 1 8 (length part) then digits_from 0 part else None

-- the event that the parts after the step name
unfoldable pub event_of : List (List ℕ) → Option ScriptEvent
event_of [] = None
event_of (name ∷ []) = if bytes_eq name (codes "nmi") then Some Nmi else None
event_of (name ∷ number ∷ []) = if bytes_eq name (codes "irq") then option_map Irq (number_of number) else None
event_of (name ∷ number ∷ part ∷ more) = None

-- what a line says
pub data Line : Type 0 where
  Passed : Line
  Event : Timed → Line
  Bad : Line

-- a step and an event, where both can be read
abbrev pub timed : Option ℕ → Option ScriptEvent → Line
timed None event = Bad
timed (Some step) None = Bad
timed (Some step) (Some event) = Event (step, event)

-- the part starts with `#`
abbrev pub is_comment : List ℕ → Bool
is_comment [] = false
is_comment (b ∷ more) = b == 35

-- an empty line and a comment say nothing
unfoldable pub line_of : List (List ℕ) → Line
line_of [] = Passed
line_of (part ∷ more) = if is_comment part then Passed else timed (number_of part) (event_of more)

-- the board has the interrupt
abbrev pub exists_on : ℕ → ScriptEvent → Bool
exists_on interrupts (Irq number) = nat_lt number interrupts
exists_on interrupts Nmi = true

-- the board has the interrupts of all events
abbrev pub are_on : ℕ → List Timed → Bool
are_on interrupts [] = true
are_on interrupts (t ∷ more) = exists_on interrupts t.1 && are_on interrupts more

-- the step of the last event, or the step before them all
abbrev pub last_step : ℕ → List Timed → ℕ
last_step step [] = step
last_step step (t ∷ more) = last_step t.0 more

-- what a part of a script gives
abbrev pub Read : Type 0
Read = Result (List Timed) ScriptRefusal

-- some events and one more, of line `number`
unfoldable pub with_event : ℕ → ℕ → List Timed → Timed → Read
with_event interrupts number events t =
    if nat_lt t.0 (last_step 0 events) then Err (OutOfOrder number)
    else if exists_on interrupts t.1
    then if nat_lt (length events) most_events then Ok (events ++ t ∷ []) else Err TooMany
    else Err (NoSuchInterrupt number)

-- the events of earlier lines, and that of line `number`
unfoldable pub with_line : ℕ → ℕ → List Timed → Line → Read
with_line interrupts number events Passed = Ok events
with_line interrupts number events Bad = Err (BadLine number)
with_line interrupts number events (Event t) = with_event interrupts number events t

-- one reading after another; the first refusal is the refusal of both
infixl 10 ◌>>=◌
abbrev pub ◌>>=◌ : Read → (List Timed → Read) → Read
Ok events >>= f = f events
Err refusal >>= f = Err refusal

-- the events of earlier lines, and those of the lines from `number` on
unfoldable pub script_from : ℕ → ℕ → List Timed → List (List ℕ) → Read
script_from interrupts number events [] = Ok events
script_from interrupts number events (line ∷ more) = do
  events ← with_line interrupts number events (line_of (parts_of line))
  script_from interrupts (number + 1) events more

-- the script in the bytes of a file, on a board of so many interrupts
unfoldable pub script_of : List ℕ → ℕ → Read
script_of bytes interrupts = script_from interrupts 1 [] (script_lines bytes)
