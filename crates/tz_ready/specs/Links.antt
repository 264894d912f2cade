-- Which slots are linked, in which lists, and which of them comes first.
use Rattle.std.specs.Prelude.{◌≡◌, ◌⊎◌, ℕ, ◌<◌, ◌≤◌, List, slice_index_or, slice_set, Option, Some, None}
use Rattle.tz_table.specs.declared.units.Side.{Side}
use Rattle.tz_ready.specs.declared.queue.Queue.{Queue}

-- of each slot the list in which it is linked, or none
abbrev pub Linked : Type 0
Linked = List (Option Queue)

-- how many slots there are
abbrev pub slots : ℕ
slots = 272

-- the list of a slot
abbrev pub queue_of : Linked → ℕ → Option Queue
queue_of l i = slice_index_or l i None

-- with a slot in a list
abbrev pub linked : Linked → ℕ → Queue → Linked
linked l i q = slice_set l i (Some q)

-- with a slot in none
abbrev pub unlinked : Linked → ℕ → Linked
unlinked l i = slice_set l i None

-- slot i stands in a list of a side, at or above a level
abbrev pub IsFrom : Linked → Side → ℕ → ℕ → ℕ → Type 0
IsFrom l side from i level = (queue_of l i ≡ Some (record { level = level; side = side })) × (from ≤ level)

-- by level, then by number
abbrev pub IsBefore : ℕ → ℕ → ℕ → ℕ → Type 0
IsBefore level i level' j = (level < level') ⊎ ((level ≡ level') × (i ≤ j))

-- it is the first of the least level of a side, at or above a level, that has any
pub record IsFirst (l : Linked) (side : Side) (from i : ℕ) : Type 0 where
  pub few : i < slots
  pub level : ℕ
  pub there : IsFrom l side from i level
  pub first : (j level' : ℕ) → IsFrom l side from j level' → IsBefore level i level' j

-- no slot of a side is linked at or above a level
abbrev pub HasNone : Linked → Side → ℕ → Type 0
HasNone l side from = (j level : ℕ) → IsFrom l side from j level → ⊥
