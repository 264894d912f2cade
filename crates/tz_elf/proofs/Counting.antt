-- How many bytes: segments that share no byte and lie in the regions hold no more than the regions do. The bytes below
-- an address are counted, and the address goes up one by one.
use Rattle.std.proofs.Common.{◌≡◌, ◌<◌, ◌≤◌, ◌+◌, ◌-◌, ◌⊎◌, ℕ, Bool, true, ◌&&◌, zero, suc, refl, arith, List, [], ◌∷◌, length, inl, inr}
use Rattle.std.specs.Prelude.{nat_le, nat_lt}
use Rattle.std.proofs.lemmas.Bool.{and_parts, cases_lt, false≢true, leb-true, ltb-true, or_cases}
use Rattle.std.proofs.lemmas.List.Recursion.{is_sum_by}
use Rattle.tz_model.specs.declared.board.Region.{Region}
use Rattle.tz_model.specs.Board.{in_region}
use Rattle.tz_model.specs.Board.{bytes_of}
use Rattle.tz_model.specs.Image.{SegmentValue, are_clear, bytes_in, clear_of_all, end_of, is_clear_of}
use Rattle.tz_elf.specs.Placement.{in_some, lies_in}

-- how many of some bytes from a base on stand below an address
abbrev pub below : ℕ → ℕ → ℕ → ℕ
below base count n = (n - base) - (n - (base + count))

-- 1 where an address is one of them
abbrev pub at : ℕ → ℕ → ℕ → ℕ
at base count n = below base count (n + 1) - below base count n

below-next : (base count n : ℕ) → below base count (n + 1) ≡ below base count n + at base count n
below-next base count n = omega arith

at-inside : (base count n : ℕ) → base ≤ n → n < base + count → at base count n ≡ 1
at-inside base count n low high = omega arith

at-outside : (base count n : ℕ) → (n < base) ⊎ (base + count ≤ n) → at base count n ≡ 0
at-outside base count n (inl low) = omega arith
at-outside base count n (inr high) = omega arith

-- the same of segments and of regions, added up
abbrev pub segments_below : ℕ → List SegmentValue → ℕ
segments_below n [] = 0
segments_below n (s ∷ more) = below s.base (length s.bytes) n + segments_below n more

abbrev pub segments_at : ℕ → List SegmentValue → ℕ
segments_at n [] = 0
segments_at n (s ∷ more) = at s.base (length s.bytes) n + segments_at n more

abbrev pub regions_below : ℕ → List Region → ℕ
regions_below n [] = 0
regions_below n (r ∷ more) = below r.base r.size n + regions_below n more

abbrev pub regions_at : ℕ → List Region → ℕ
regions_at n [] = 0
regions_at n (r ∷ more) = at r.base r.size n + regions_at n more

segments_below-next : (n : ℕ) (segments : List SegmentValue) → segments_below (n + 1) segments ≡ segments_below n segments + segments_at n segments
segments_below-next n [] = refl
segments_below-next n (s ∷ more) =
    let head = below-next s.base (length s.bytes) n in
    let rest = segments_below-next n more in
    omega (arith, head, rest)

regions_below-next : (n : ℕ) (regions : List Region) → regions_below (n + 1) regions ≡ regions_below n regions + regions_at n regions
regions_below-next n [] = refl
regions_below-next n (r ∷ more) =
    let head = below-next r.base r.size n in
    let rest = regions_below-next n more in
    omega (arith, head, rest)

segments_below-zero : (segments : List SegmentValue) → segments_below 0 segments ≡ 0
segments_below-zero [] = refl
segments_below-zero (s ∷ more) =
    let rest = segments_below-zero more in
    omega (arith, rest)

-- a segment that holds an address keeps the ones that are clear of it from holding it
at-clear : (s : SegmentValue) (n : ℕ) (more : List SegmentValue) → s.base ≤ n → n < end_of s → clear_of_all s more ≡ true → segments_at n more ≡ 0
at-clear s n [] low high clear = refl
at-clear s n (q ∷ more) low high clear =
    let parts = and_parts (is_clear_of s q) (clear_of_all s more) clear in
    let rest = at-clear s n more low high parts.1 in
    let none : at q.base (length q.bytes) n ≡ 0 = elim (or_cases (nat_le (end_of s) q.base) (nat_le (end_of q) s.base) parts.0) [
      | inl before ↦
          let order = leb-true (end_of s) q.base before in
          at-outside q.base (length q.bytes) n (inl (omega (arith, order)))
      | inr after ↦
          let order = leb-true (end_of q) s.base after in
          at-outside q.base (length q.bytes) n (inr (omega (arith, order)))
    ] in
    omega (arith, rest, none)

-- an address is in a segment or it isn't
abbrev pub Side_of : SegmentValue → ℕ → Type 0
Side_of s n = ((s.base ≤ n) × (n < end_of s)) ⊎ ((n < s.base) ⊎ (end_of s ≤ n))

side_of : (s : SegmentValue) (n : ℕ) → Side_of s n
side_of s n =
    elim (cases_lt n s.base) [
      | inl low ↦ inr (inl low)
      | inr from ↦ elim (cases_lt n (end_of s)) [ inl inside ↦ inl (from, inside) | inr high ↦ inr (inr high) ]
    ]

-- segments that share no byte hold an address once at most
pub at_most_once : (n : ℕ) (segments : List SegmentValue) → are_clear segments ≡ true → segments_at n segments ≤ 1
at_most_once n [] clear = omega arith
at_most_once n (s ∷ more) clear =
    let parts = and_parts (clear_of_all s more) (are_clear more) clear in
    let rest = at_most_once n more parts.1 in
    elim (side_of s n) [
      | inl inside ↦
          let one = at-inside s.base (length s.bytes) n inside.0 inside.1 in
          let none = at-clear s n more inside.0 inside.1 parts.0 in
          omega (arith, one, none)
      | inr outside ↦
          let zero = at-outside s.base (length s.bytes) n outside in
          omega (arith, zero, rest)
    ]

-- each segment has bytes, and they lie in the regions
abbrev pub are_placed : List Region → List SegmentValue → Bool
are_placed regions [] = true
are_placed regions (s ∷ more) = (nat_le 1 (length s.bytes) && lies_in regions s.base (length s.bytes)) && are_placed regions more

-- each byte of bytes that lie in the regions is in one of them
pub lies_in-at : (regions : List Region) (base count n : ℕ) → lies_in regions base count ≡ true → base ≤ n → n < base + count → in_some regions n ≡ true
unfolding lies_in
lies_in-at regions base zero n lies low high = absurd (omega arith)
lies_in-at regions base (suc count) n lies low high =
    let parts = and_parts (in_some regions base) (lies_in regions (base + 1) count) lies in
    elim (cases_lt base n) [
      | inl later ↦ lies_in-at regions (base + 1) count n parts.1 (omega arith) (omega arith)
      | inr here ↦
          let same : n ≡ base = omega arith in
          rw same parts.0
    ]

placed-in_some : (regions : List Region) (n : ℕ) (segments : List SegmentValue) → are_placed regions segments ≡ true → 0 < segments_at n segments → in_some regions n ≡ true
placed-in_some regions n [] placed some = absurd (omega arith)
placed-in_some regions n (s ∷ more) placed some =
    let parts = and_parts (nat_le 1 (length s.bytes) && lies_in regions s.base (length s.bytes)) (are_placed regions more) placed in
    let lies = and_parts (nat_le 1 (length s.bytes)) (lies_in regions s.base (length s.bytes)) parts.0 in
    elim (side_of s n) [
      | inl inside ↦ lies_in-at regions s.base (length s.bytes) n lies.1 inside.0 inside.1
      | inr outside ↦
          let zero = at-outside s.base (length s.bytes) n outside in
          placed-in_some regions n more parts.1 (omega (arith, zero))
    ]

pub in_region-bounds : (r : Region) (n : ℕ) → in_region r n ≡ true → (r.base ≤ n) × (n < r.base + r.size)
in_region-bounds r n inside =
    let parts = and_parts (nat_le r.base n) (nat_lt (n - r.base) r.size) inside in
    let low = leb-true r.base n parts.0 in
    let high : n - r.base < r.size = ltb-true (n - r.base) r.size parts.1 in
    (low, omega (arith, low, high))

-- an address in one of the regions is counted
in_some-counted : (n : ℕ) (regions : List Region) → in_some regions n ≡ true → 1 ≤ regions_at n regions
in_some-counted n [] inside = absurd (false≢true inside)
in_some-counted n (r ∷ more) inside =
    elim (or_cases (in_region r n) (in_some more n) inside) [
      | inl here ↦
          let bounds = in_region-bounds r n here in
          let one = at-inside r.base r.size n bounds.0 bounds.1 in
          omega (arith, one)
      | inr later ↦
          let rest = in_some-counted n more later in
          omega (arith, rest)
    ]

-- at an address, the segments count no more than the regions
counted_at : (regions : List Region) (n : ℕ) (segments : List SegmentValue) → are_placed regions segments ≡ true → are_clear segments ≡ true
    → segments_at n segments ≤ regions_at n regions
counted_at regions n segments placed clear =
    let most = at_most_once n segments clear in
    elim (cases_lt 0 (segments_at n segments)) [
      | inl some ↦
          let one = in_some-counted n regions (placed-in_some regions n segments placed some) in
          omega (arith, most, one)
      | inr none ↦ omega arith
    ]

-- and so below each address
pub counted_below : (regions : List Region) (segments : List SegmentValue) → are_placed regions segments ≡ true → are_clear segments ≡ true
    → (n : ℕ) → segments_below n segments ≤ regions_below n regions
counted_below regions segments placed clear zero =
    let none = segments_below-zero segments in
    omega (arith, none)
counted_below regions segments placed clear (suc n) =
    let before = counted_below regions segments placed clear n in
    let here = counted_at regions n segments placed clear in
    let s = segments_below-next n segments in
    let r = regions_below-next n regions in
    let next : suc n ≡ n + 1 = omega arith in
    rw next (omega (arith, before, here, s, r))

-- the sizes of regions, and the lengths of segments, added up
abbrev pub sizes : List Region → ℕ
sizes [] = 0
sizes (r ∷ more) = r.size + sizes more

abbrev pub lengths : List SegmentValue → ℕ
lengths [] = 0
lengths (s ∷ more) = length s.bytes + lengths more

sizes-bytes_of : (regions : List Region) → sizes regions ≡ bytes_of regions
sizes-bytes_of = is_sum_by sizes (λ r. r.size) refl (λ r more. refl)

pub lengths-bytes_in : (segments : List SegmentValue) → lengths segments ≡ bytes_in segments
lengths-bytes_in = is_sum_by lengths (λ s. length s.bytes) refl (λ s more. refl)

regions_below-most : (n : ℕ) (regions : List Region) → regions_below n regions ≤ sizes regions
regions_below-most n [] = omega arith
regions_below-most n (r ∷ more) =
    let rest = regions_below-most n more in
    omega (arith, rest)

-- each segment ends at or below an address
abbrev pub end_below : ℕ → List SegmentValue → Bool
end_below n [] = true
end_below n (s ∷ more) = nat_le (end_of s) n && end_below n more

-- all bytes are below an address that no segment passes
segments_below-all : (n : ℕ) (segments : List SegmentValue) → end_below n segments ≡ true → segments_below n segments ≡ lengths segments
segments_below-all n [] ends = refl
segments_below-all n (s ∷ more) ends =
    let parts = and_parts (nat_le (end_of s) n) (end_below n more) ends in
    let last = leb-true (end_of s) n parts.0 in
    let rest = segments_below-all n more parts.1 in
    omega (arith, last, rest)

-- segments that share no byte and lie in the regions have no more bytes than the regions
pub bytes_in-most : (n : ℕ) (regions : List Region) (segments : List SegmentValue) → end_below n segments ≡ true → are_placed regions segments ≡ true
    → are_clear segments ≡ true → bytes_in segments ≤ bytes_of regions
bytes_in-most n regions segments ends placed clear =
    let all = segments_below-all n segments ends in
    let counted = counted_below regions segments placed clear n in
    let most = regions_below-most n regions in
    let sizes_are = sizes-bytes_of regions in
    let lengths_are = lengths-bytes_in segments in
    omega (arith, all, counted, most, sizes_are, lengths_are)
