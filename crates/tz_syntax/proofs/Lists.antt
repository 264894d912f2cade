-- The text of a list of registers, one register after the other.
use Rattle.std.proofs.Common.{◌≡◌, ℕ, ◌+◌, ◌-◌, ◌<◌, [], ◌++◌, arith, ap, suc}
use Rattle.tz_syntax.specs.Pieces.{listed_text, listed_from}

pub listed_from_next : (list k n m : ℕ) → n ≡ suc m → listed_from list k n ≡ listed_text list k ++ listed_from list (k + 1) m
unfolding listed_from
listed_from_next list k n m h = ap (listed_from list k) h

pub listed_from_step : (list k : ℕ) → k < 16 → listed_from list k (16 - k) ≡ listed_text list k ++ listed_from list (k + 1) (16 - (k + 1))
listed_from_step list k h = listed_from_next list k (16 - k) (16 - (k + 1)) (omega arith)

pub listed_from_none : (list k n : ℕ) → n ≡ 0 → listed_from list k n ≡ []
unfolding listed_from
listed_from_none list k n h = ap (listed_from list k) h
