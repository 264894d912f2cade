-- The regions that have been found to hold an address so far.
use Rattle.std.proofs.Common.{ℕ, List, ◌∷◌}
use Rattle.tz_state.specs.declared.units.Bounds.{Bounds}
use Rattle.tz_mpu.specs.declared.holders.Holders.{Holders}
use Rattle.tz_mpu.specs.declared.holders.Holders.TheVariants.{Nothing, One, Several}
use Rattle.tz_mpu.specs.Holders.{holders_of}

-- what all regions give, of which some were found before these
abbrev pub found_after : Holders → List (ℕ × Bounds) → Holders
found_after Nothing rest = holders_of rest
found_after (One k r) rest = holders_of ((k, r) ∷ rest)
found_after Several rest = Several
