-- Regions that two registers bound: those of the SAU and of the MPUs.
use Rattle.std.specs.Prelude.{ℕ, ◌+◌, ◌*◌, ◌/◌, ◌%◌, ◌==◌, Bool, ◌&&◌, nat_le, if◌then◌else◌, List, [], ◌∷◌, Option, Some, None}
use Rattle.tz_state.specs.declared.units.Bounds.{Bounds}

-- a region that isn't there
abbrev pub no_bounds : Bounds
no_bounds = record { rbar = 0; rlar = 0 }

-- RBAR has the base, RLAR the limit and the enable bit
abbrev pub is_enabled : Bounds → Bool
is_enabled r = r.rlar % 2 == 1

-- from the base with its low five bits zero to the limit with its low five bits one
abbrev pub spans : Bounds → ℕ → Bool
spans r a = nat_le (r.rbar / 32 * 32) a && nat_le a (r.rlar / 32 * 32 + 31)

abbrev pub holds : Bounds → ℕ → Bool
holds r a = is_enabled r && spans r a

-- the enabled regions that hold an address, with their numbers, of which the first is k
unfoldable pub holding : ℕ → List Bounds → ℕ → List (ℕ × Bounds)
holding k [] a = []
holding k (r ∷ rs) a = if holds r a then (k, r) ∷ holding (k + 1) rs a else holding (k + 1) rs a

-- the number of the only one
abbrev pub the_only : List (ℕ × Bounds) → Option ℕ
the_only [] = None
the_only (r ∷ []) = Some r.0
the_only (r ∷ q ∷ more) = None
