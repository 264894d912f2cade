-- Bytes that a reader has given so far.
use Rattle.std.proofs.Common.{◌≡◌, ℕ, List, ◌++◌, length}

-- so many bytes were appended
pub record Gained (old new : List ℕ) (n : ℕ) : Type 0 where
  pub bytes : List ℕ
  pub appended : new ≡ old ++ bytes
  pub count : length bytes ≡ n
