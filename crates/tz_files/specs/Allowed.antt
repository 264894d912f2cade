-- What a value or a stop may be by what is settled, and a shelf in a call.
use Rattle.std.specs.Prelude.{◌≡◌, ℕ, Bool, List}
use Rattle.tz_model.specs.Outside.{Held}
use Rattle.tz_files.specs.Told.{Stop, BadWords, TooManySteps, TooManyBack, Unread, TooLong, BadBoard, BadImage, BadState, BadScript, BadSource, TooFar, Told, Unknown, Stops, Gives}

-- what is settled allows a value, or a stop
abbrev pub Allows : {A : Type 0} → Told A → A → Type 0
Allows Unknown x = Unit {0}
Allows (Stops stop) x = ⊥
Allows (Gives y) x = y ≡ x

-- only a file can stop a command where a shelf doesn't tell
abbrev pub IsOfFile : Stop → Type 0
IsOfFile BadWords = ⊥
IsOfFile TooManySteps = ⊥
IsOfFile TooManyBack = ⊥
IsOfFile (Unread name) = Unit {0}
IsOfFile (TooLong name) = Unit {0}
IsOfFile (BadBoard name refusal) = Unit {0}
IsOfFile (BadImage name refusal) = Unit {0}
IsOfFile (BadState name refusal) = Unit {0}
IsOfFile (BadScript name refusal) = Unit {0}
IsOfFile (BadSource name refusal) = Unit {0}
IsOfFile (TooFar name) = Unit {0}

abbrev pub AllowsStop : {A : Type 0} → Told A → Stop → Type 0
AllowsStop Unknown stop = IsOfFile stop
AllowsStop (Stops s) stop = s ≡ stop
AllowsStop (Gives y) stop = ⊥

-- the shelf's word and counts in a call
pub record Shelved : Type 0 where
  pub held : List ℕ → Held
  pub sound : Bool
  pub before : ℕ
  pub now : ℕ
