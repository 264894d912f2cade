-- What a shelf gives and a sink takes.
use Rattle.std.specs.Prelude.{◌≡◌, ◌↔◌, ℕ, ◌+◌, ◌-◌, ◌^◌, ◌≤◌, min, List, [], ◌++◌, length, Option, Some, None, Result, Err, IsOk, OnOk, IfSome}
use Rattle.tz_model.specs.declared.outside.ShelfError.{ShelfError}
use Rattle.tz_model.specs.declared.outside.ShelfError.TheVariants as shelf_errors
use Rattle.tz_model.specs.declared.outside.SinkError.{SinkError}

-- what stands under a name: not told, nothing, or these bytes
pub data Held : Type 0 where
  Untold : Held
  Absent : Held
  Holds : (bytes : List ℕ) → Held

-- a count rose: it is greater, or stands at its last value
abbrev pub Rose : ℕ → ℕ → Type 0
Rose before now = min (before + 1) (2 ^ 64 - 1) ≤ now

-- the count never falls, and rose where the fault is told
pub record HasCause (before now : ℕ) (Failed : Type 0) : Type 0 where
  pub later : before ≤ now
  pub failed : Failed → Rose before now

-- what was gained is all that is held
abbrev pub IsWhole : Held → List ℕ → Type 0
IsWhole Untold gained = Unit {0}
IsWhole Absent gained = ⊥
IsWhole (Holds bytes) gained = gained ≡ bytes

-- a whole file was appended, of at most so many bytes
pub record Got (held : Held) (limit : ℕ) (old new : List ℕ) : Type 0 where
  pub gained : List ℕ
  pub appended : new ≡ old ++ gained
  pub short : length gained ≤ limit
  pub whole : IsWhole held gained

-- the file begins with what was read of it; of none nothing was read
abbrev pub IsFront : Held → List ℕ → Type 0
IsFront Untold gained = Unit {0}
IsFront Absent gained = gained ≡ []
IsFront (Holds bytes) gained = (rest : List ℕ) × (gained ++ rest ≡ bytes)

-- a front of a file was appended
pub record Cut (held : Held) (old new : List ℕ) : Type 0 where
  pub gained : List ℕ
  pub appended : new ≡ old ++ gained
  pub front : IsFront held gained

-- `Long` comes with the byte behind the limit, and that byte with no other answer
abbrev pub Long : ℕ → Result Unit ShelfError → List ℕ → List ℕ → Type 0
Long limit result old new = (result ≡ Err shelf_errors.Long) ↔ (length new ≡ length old + (limit + 1))

-- what was written before, and then this; nothing is said where the sink doesn't tell
abbrev pub Gains : Option (List ℕ) → Option (List ℕ) → List ℕ → Type 0
Gains None new text = new ≡ None
Gains (Some old) new text = new ≡ Some (old ++ text)

-- the room that is left after so many bytes
abbrev pub space_after : Option ℕ → ℕ → Option ℕ
space_after None n = None
space_after (Some room) n = Some (room - n)

-- the bytes, or at a fault a front of them, were appended; what fits the told room doesn't fail
pub record Put (old new : Option (List ℕ)) (room room' : Option ℕ) (bytes : List ℕ) (result : Result Unit SinkError) : Type 0 where
  pub gained : List ℕ
  pub written : Gains old new gained
  pub front : (rest : List ℕ) × (gained ++ rest ≡ bytes)
  pub space : room' ≡ space_after room (length gained)
  pub whole : OnOk result (gained ≡ bytes)
  pub fits : IfSome room (λ n. length bytes ≤ n → IsOk result)
