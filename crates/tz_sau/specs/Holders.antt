-- None, one or several of the regions hold an address.
use Rattle.std.specs.Prelude.{ℕ, List, [], ◌∷◌}
use Rattle.tz_state.specs.declared.units.Bounds.{Bounds}
use Rattle.tz_sau.specs.declared.scan.Holders.{Holders}
use Rattle.tz_sau.specs.declared.scan.Holders.TheVariants.{Nobody, One, Several}

abbrev pub holders_of : List (ℕ × Bounds) → Holders
holders_of [] = Nobody
holders_of (r ∷ []) = One r.0 r.1
holders_of (r ∷ q ∷ more) = Several
