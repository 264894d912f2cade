-- Images as values.
use Rattle.std.specs.Prelude.{ℕ, ◌+◌, ◌^◌, Bool, true, ◌&&◌, ◌||◌, nat_le, List, [], ◌∷◌, length, sum_by, IsTrue}
use Rattle.tz_model.specs.Board.{most_bytes}

-- bytes from an address on
pub record SegmentValue : Type 0 where
  pub base : ℕ
  pub bytes : List ℕ

pub record ImageValue : Type 0 where
  pub segments : List SegmentValue

-- the first address past a segment
abbrev pub end_of : SegmentValue → ℕ
end_of s = s.base + length s.bytes

-- each segment ends at or below 2^32
abbrev pub are_addressed : List SegmentValue → Bool
are_addressed [] = true
are_addressed (s ∷ more) = nat_le (end_of s) (2 ^ 32) && are_addressed more

-- two segments share no byte
abbrev pub is_clear_of : SegmentValue → SegmentValue → Bool
is_clear_of s q = nat_le (end_of s) q.base || nat_le (end_of q) s.base

abbrev pub clear_of_all : SegmentValue → List SegmentValue → Bool
clear_of_all s [] = true
clear_of_all s (q ∷ more) = is_clear_of s q && clear_of_all s more

-- no two segments share a byte
abbrev pub are_clear : List SegmentValue → Bool
are_clear [] = true
are_clear (s ∷ more) = clear_of_all s more && are_clear more

-- how many bytes the segments have together
abbrev pub bytes_in : List SegmentValue → ℕ
bytes_in segments = sum_by (λ s. length s.bytes) segments

-- what the segments of every image meet
pub record IsImage (segments : List SegmentValue) : Type 0 where
  pub addressed : IsTrue (are_addressed segments)
  pub clear : IsTrue (are_clear segments)
  pub small : IsTrue (nat_le (bytes_in segments) most_bytes)

-- bytes with their addresses, from an address on
abbrev pub entries_from : ℕ → List ℕ → List (ℕ × ℕ)
entries_from base [] = []
entries_from base (b ∷ bs) = (base, b) ∷ entries_from (base + 1) bs
