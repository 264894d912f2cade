-- How far gates were looked for.
use Rattle.std.specs.Prelude.{◌≡◌, ℕ, ◌-◌, ◌<◌, ◌≤◌, ◌%◌, ◌^◌, Bool, false, ◌&&◌, nat_le, List, Option, MatchOption}
use Rattle.tz_model.specs.declared.board.Region.{Region}
use Rattle.tz_state.specs.Access.{is_mapped}
use Rattle.tz_state.specs.State.{State}
use Rattle.tz_gates.specs.Gates.{is_gate_half, gates_below}

-- the gates below the halfword right before an address are found, and it is told whether that halfword might begin one
pub record Scanned (s : State) (a : ℕ) (gates : List ℕ) (half : Bool) : Type 0 where
  pub found : gates ≡ gates_below s (a - 2)
  pub last : half ≡ (nat_le 2 a && is_gate_half s (a - 2))

-- no region holds an address from one on and below another
abbrev pub IsGap : List Region → ℕ → ℕ → Type 0
IsGap rs from to = (a : ℕ) → from ≤ a → a < to → is_mapped rs a ≡ false

-- blocks of 32 bytes, before which no region holds an address from one on
pub record IsNext (rs : List Region) (from first end : ℕ) : Type 0 where
  pub above : from ≤ first
  pub some : first < end
  pub low : end ≤ 0xE0000000
  pub first_block : first % 32 ≡ 0
  pub end_block : end % 32 ≡ 0
  pub gap : IsGap rs from first

-- the first bytes that regions hold from an address on, and where they end; or there are none
abbrev pub IsNextOf : List Region → ℕ → Option (ℕ × ℕ) → Type 0
IsNextOf rs from next = MatchOption next (IsGap rs from (2 ^ 32)) (λ span. IsNext rs from span.0 span.1)
