-- The regions that have been found to hold an address so far.
use Rattle.std.proofs.Common.{ℕ, List, ◌∷◌, Option, Some, None}
use Rattle.tz_state.specs.declared.units.Bounds.{Bounds}
use Rattle.tz_sau.specs.declared.scan.Holders.{Holders}
use Rattle.tz_sau.specs.Holders.{holders_of}

-- what the regions say of which at most one was found before these
abbrev pub holders_after : Option (ℕ × Bounds) → List (ℕ × Bounds) → Holders
holders_after None rest = holders_of rest
holders_after (Some r) rest = holders_of (r ∷ rest)
