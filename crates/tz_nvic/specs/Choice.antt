-- The slots that may come first, and what it is to lead others.
use Rattle.std.specs.Prelude.{◌≡◌, ℕ, ◌<◌, ◌≤◌, nat_lt, true, false, if◌then◌else◌, Option, Some, None}
use Rattle.tz_table.specs.declared.units.Side.{Side}
use Rattle.tz_state.specs.Slots.{ExceptionsValue, places, exception_number, side_at, has_fixed_priority}
use Rattle.tz_state.specs.Priority.{is_ready, rank_of}
use Rattle.tz_nvic.specs.declared.choice.Candidate.{Candidate}

-- the slot at a place, where it is ready
abbrev pub candidate_at : ExceptionsValue → ℕ → Option Candidate
candidate_at e i = if is_ready e i then Some (record { place = i; rank = rank_of e i }) else None

-- the one of the lower rank
abbrev pub lower : Option Candidate → Option Candidate → Option Candidate
lower None other = other
lower (Some c) None = Some c
lower (Some c) (Some d) = if nat_lt c.rank d.rank then Some c else Some d

-- it is ready, and of all ready slots of which P holds none has a lower rank
pub record IsLeading (e : ExceptionsValue) (P : ℕ → Type 0) (c : Candidate) : Type 0 where
  pub few : c.place < places
  pub ready : is_ready e c.place ≡ true
  pub rank : c.rank ≡ rank_of e c.place
  pub least : (j : ℕ) → P j → is_ready e j ≡ true → c.rank ≤ rank_of e j

-- it leads the ready slots of which P holds, or there are none
abbrev pub Leads : ExceptionsValue → (ℕ → Type 0) → Option Candidate → Type 0
Leads e P None = (j : ℕ) → P j → is_ready e j ≡ true → ⊥
Leads e P (Some c) = IsLeading e P c

-- a slot of a side whose priority isn't fixed
abbrev pub IsOn : ExceptionsValue → Side → ℕ → Type 0
IsOn e side j = (has_fixed_priority (exception_number j) ≡ false) × (side_at e j ≡ side)
