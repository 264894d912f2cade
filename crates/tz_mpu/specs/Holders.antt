-- The regions of an MPU that hold an address: none, one or several.
use Rattle.std.specs.Prelude.{ℕ, List, [], ◌∷◌}
use Rattle.tz_state.specs.declared.units.Bounds.{Bounds}
use Rattle.tz_mpu.specs.declared.holders.Holders.{Holders}
use Rattle.tz_mpu.specs.declared.holders.Holders.TheVariants.{Nothing, One, Several}

-- by the enabled regions that hold an address, with their numbers
abbrev pub holders_of : List (ℕ × Bounds) → Holders
holders_of [] = Nothing
holders_of (r ∷ []) = One r.0 r.1
holders_of (r ∷ q ∷ more) = Several
