-- What a copy leaves.
use Rattle.std.specs.Prelude.{◌≡◌, ◌⊎◌, ℕ, ◌<◌, ◌≤◌, List, slice_index_or}

-- what stands from one place up to another is as others have it, and the rest as it was
pub record IsCopied {X : Type 0} (old others : List X) (first end : ℕ) (new : List X) : Type 0 where
  pub inside : (i : ℕ) (d : X) → first ≤ i → i < end → slice_index_or new i d ≡ slice_index_or others i d
  pub outside : (i : ℕ) (d : X) → (i < first) ⊎ (end ≤ i) → slice_index_or new i d ≡ slice_index_or old i d
