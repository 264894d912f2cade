-- A text that goes out as a line of a status, or can't be written.
use Rattle.std.specs.Prelude.{◌≡◌, ◌⊎◌, ℕ, ◌≤◌, List, ◌++◌, length, Option, IfSome}
use Rattle.tz_model.specs.Outside.{Rose, Gains}

-- bytes that a text begins with were gained
pub record GainsFront (old new : Option (List ℕ)) (text : List ℕ) : Type 0 where
  pub gained : List ℕ
  pub rest : List ℕ
  pub front : gained ++ rest ≡ text
  pub gains : Gains old new gained

-- so many bytes don't fit the told room
abbrev pub Exceeds : Option ℕ → ℕ → Type 0
Exceeds space n = IfSome space (λ room. n ≤ room → ⊥)

-- a line is written, and the answer is its status; or it can't be written
abbrev pub IsTold : (result : ℕ) (line : List ℕ) (status : ℕ) (old new : Option (List ℕ)) (space : Option ℕ) (before now : ℕ) → Type 0
IsTold result line status old new space before now =
    ((result ≡ status) × Gains old new line) ⊎ ((result ≡ 4) × Rose before now × Exceeds space (length line) × GainsFront old new line)
