-- The value at a place of earlier values.
use Rattle.std.proofs.Common.{◌≡◌, ℕ, zero, suc, List, [], ◌∷◌, get_or, refl, ℤ, pos}
use Rattle.tz_encode.specs.Limits.{entry}

pub entry_is : (e : List ℤ) (k : ℕ) → get_or e k (pos 0) ≡ entry e k
entry_is [] k = refl
entry_is (x ∷ e) zero = refl
entry_is (x ∷ e) (suc k) = entry_is e k
