-- Bits that tell which lists aren't empty, 32 to a word.
use Rattle.std.specs.Prelude.{◌≡◌, ℕ, ◌/◌, ◌%◌, ◌^◌, ◌==◌, ◌<◌, ◌≤◌, Bool, true, false, List, slice_index, Option, Some, None}

-- bit j of a word
abbrev pub has_bit : ℕ → ℕ → Bool
has_bit word j = word / 2 ^ j % 2 == 1

-- bit k, counted through all words
abbrev pub is_set : List ℕ → ℕ → Bool
is_set words k = has_bit (slice_index words (k / 32)) (k % 32)

-- a test fails from one number on, up to another
abbrev pub FailsWithin : (ℕ → Bool) → ℕ → ℕ → Type 0
FailsWithin test low high = (j : ℕ) → low ≤ j → j < high → test j ≡ false

-- k is the first that passes a test, from one number on, up to another
pub record IsLeast (test : ℕ → Bool) (low high k : ℕ) : Type 0 where
  pub from : low ≤ k
  pub few : k < high
  pub passes : test k ≡ true
  pub first : FailsWithin test low k

-- the first that passes, where one does
abbrev pub Finds : (ℕ → Bool) → ℕ → ℕ → Option ℕ → Type 0
Finds test low high None = FailsWithin test low high
Finds test low high (Some k) = IsLeast test low high k
