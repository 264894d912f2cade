-- What it is to come first, said of each other slot, and how places are ordered.
use Rattle.std.specs.Prelude.{◌≡◌, ◌≢◌, ◌⊎◌, ℕ, ◌<◌, ◌≤◌, true}
use Rattle.tz_table.specs.declared.units.Side.TheVariants.{Secure, NonSecure}
use Rattle.tz_state.specs.Slots.{ExceptionsValue, places, exception_number, side_at}
use Rattle.tz_state.specs.Priority.{priority_of, subpriority_of, is_ready}

-- by group priority, then subpriority, then place
abbrev pub ComesBefore : ExceptionsValue → ℕ → ℕ → Type 0
ComesBefore e i j =
    (priority_of e i < priority_of e j)
    ⊎ ((priority_of e i ≡ priority_of e j)
    × ((subpriority_of e i < subpriority_of e j) ⊎ ((subpriority_of e i ≡ subpriority_of e j) × (i < j))))

-- it is ready, and comes before all others that are
pub record IsFirst (e : ExceptionsValue) (i : ℕ) : Type 0 where
  pub place : i < places
  pub ready : is_ready e i ≡ true
  pub first : (j : ℕ) → j < places → is_ready e j ≡ true → j ≢ i → ComesBefore e i j

-- PRIGROUP has three bits
abbrev pub FitGroups : ExceptionsValue → Type 0
FitGroups e = (e.prigroup_s ≤ 7) × (e.prigroup_ns ≤ 7)

-- by number, and of one number Secure before Non-secure
abbrev pub Ascends : ExceptionsValue → ℕ → ℕ → Type 0
Ascends e i j =
    (exception_number i < exception_number j) ⊎ ((exception_number i ≡ exception_number j) × (side_at e i ≡ Secure) × (side_at e j ≡ NonSecure))
