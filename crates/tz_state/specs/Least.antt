-- The least by a rank.
use Rattle.std.specs.Prelude.{ℕ, zero, suc, nat_lt, Bool, if◌then◌else◌, Option, Some, None}

-- a place, or the one found below it where that is of a lower rank
abbrev pub lower_of : (ℕ → ℕ) → ℕ → Option ℕ → ℕ
lower_of rank i None = i
lower_of rank i (Some found) = if nat_lt (rank i) (rank found) then i else found

-- the place below n of the least rank among those that are ready
unfoldable pub least_below : (ℕ → Bool) → (ℕ → ℕ) → ℕ → Option ℕ
least_below ready rank zero = None
least_below ready rank (suc n) = if ready n then Some (lower_of rank n (least_below ready rank n)) else least_below ready rank n
