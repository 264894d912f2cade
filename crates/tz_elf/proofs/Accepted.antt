-- Segments that were accepted one by one make an image: each lies in the regions, and no two share a byte.
use Rattle.std.proofs.Common.{◌≡◌, ◌<◌, ◌≤◌, ◌+◌, ◌-◌, ◌==◌, ℕ, Bool, true, false, not, ◌&&◌, refl, arith, List, [], ◌∷◌, ◌++◌, length, take, drop, slice_index, length-drop, Option, Some, None, Ok, inl, inr, if◌then◌else◌}
use Rattle.std.specs.Prelude.{nat_le}
use Rattle.std.proofs.lemmas.Bool.{and_from, and_parts, false≢true, le-leb, leb-true, or_cases}
use Rattle.tz_model.specs.declared.board.Region.{Region}
use Rattle.tz_model.specs.Board.{in_region}
use Rattle.tz_model.specs.Board.{are_regions, bytes_of as sizes_of, is_multiple, is_region, most_bytes, within}
use Rattle.tz_model.specs.Image.{IsImage, SegmentValue, are_addressed, are_clear, clear_of_all, end_of, is_clear_of}
use Rattle.tz_elf.specs.Placement.{Refusal, Outside, Segments, WrongSide, first_sharing, in_some, lies_in, overlap_with, placed_in, unless}
use Rattle.tz_elf.specs.PlainImage.{bytes_of, line_then, segment_of, segment_then, segment_with, segments_from, without_return}
use Rattle.tz_elf.proofs.Counting.{are_placed, bytes_in-most, end_below, in_region-bounds, lies_in-at}
use Rattle.tz_elf.proofs.Digits.{length-bytes_of}

-- what holds of segments that stand in regions
pub record Accepted (regions : List Region) (segments : List SegmentValue) : Type 0 where
  pub placed : are_placed regions segments ≡ true
  pub clear : are_clear segments ≡ true

-- ---- one more segment

placed_in-none : (all usable : List Region) (index : ℕ) (earlier : Option ℕ) (s : SegmentValue) → placed_in all usable index earlier s ≡ None
    → (lies_in all s.base (length s.bytes) ≡ true) × (earlier ≡ None)
placed_in-none all usable index earlier s = by_tests (lies_in all s.base (length s.bytes)) (lies_in usable s.base (length s.bytes)) earlier
  where
    by_tests : (a b : Bool) (o : Option ℕ) → (if not a then Some (Outside index) else if not b then Some (WrongSide index) else overlap_with index o) ≡ None
        → (a ≡ true) × (o ≡ None)
    by_tests true true None h = (refl, refl)
    by_tests true true (Some place) h = cc h
    by_tests true false o h = cc h
    by_tests false b o h = cc h

pub clear_of_all-push : (q s : SegmentValue) (more : List SegmentValue) → clear_of_all q more ≡ true → is_clear_of q s ≡ true → clear_of_all q (more ++ s ∷ []) ≡ true
clear_of_all-push q s [] clear last = rw last refl
clear_of_all-push q s (p ∷ more) clear last =
    let parts = and_parts (is_clear_of q p) (clear_of_all q more) clear in
    and_from (is_clear_of q p) (clear_of_all q (more ++ s ∷ [])) parts.0 (clear_of_all-push q s more parts.1 last)

are_clear-push : (i : ℕ) (s : SegmentValue) (before : List SegmentValue) → are_clear before ≡ true → first_sharing i s before ≡ None → are_clear (before ++ s ∷ []) ≡ true
are_clear-push i s [] clear none = refl
are_clear-push i s (q ∷ more) clear none =
    let parts = and_parts (clear_of_all q more) (are_clear more) clear in
    let first = by_test (is_clear_of q s) none in
    and_from (clear_of_all q (more ++ s ∷ [])) (are_clear (more ++ s ∷ [])) (clear_of_all-push q s more parts.0 first.0) (are_clear-push (i + 1) s more parts.1 first.1)
  where
    by_test : (t : Bool) → (if t then first_sharing (i + 1) s more else Some i) ≡ None → (t ≡ true) × (first_sharing (i + 1) s more ≡ None)
    by_test true h = (refl, h)
    by_test false h = cc h

are_placed-push : (regions : List Region) (s : SegmentValue) (before : List SegmentValue) → are_placed regions before ≡ true → 1 ≤ length s.bytes
    → lies_in regions s.base (length s.bytes) ≡ true → are_placed regions (before ++ s ∷ []) ≡ true
are_placed-push regions s [] placed some lies = rw (le-leb 1 (length s.bytes) some, lies) refl
are_placed-push regions s (q ∷ more) placed some lies =
    let here = nat_le 1 (length q.bytes) && lies_in regions q.base (length q.bytes) in
    let parts = and_parts here (are_placed regions more) placed in
    and_from here (are_placed regions (more ++ s ∷ [])) parts.0 (are_placed-push regions s more parts.1 some lies)

-- a segment that passed its tests
pub Accepted-push : (all usable : List Region) (index : ℕ) (earlier : Option ℕ) (s : SegmentValue) (before : List SegmentValue) → Accepted all before → 1 ≤ length s.bytes
    → (earlier ≡ None → first_sharing 0 s before ≡ None) → placed_in all usable index earlier s ≡ None → Accepted all (before ++ s ∷ [])
Accepted-push all usable index earlier s before accepted some sharing passed =
    let tests = placed_in-none all usable index earlier s passed in
    record {
      placed = are_placed-push all s before accepted.placed some tests.0;
      clear = are_clear-push 0 s before accepted.clear (sharing tests.1);
    }

-- ---- the lines of a plain image

-- the segment of a line has bytes
pub segment_of-bytes : (line : List ℕ) (s : SegmentValue) → segment_of line ≡ Some s → 1 ≤ length s.bytes
segment_of-bytes line s e = by_test (within 11 137 (length line) && slice_index line 8 == 32) refl e
  where
    by_bytes : (address bytes : Option (List ℕ)) → bytes_of (drop 9 line) ≡ bytes → 11 ≤ length line → segment_with address bytes ≡ Some s → 1 ≤ length s.bytes
    by_bytes (Some address) (Some bytes) read long h =
        let half = length-bytes_of (drop 9 line) bytes read in
        let same : bytes ≡ s.bytes = cc h in
        rw (← same) (omega (arith, half, length-drop 9 line))
    by_bytes (Some address) None read long h = cc h
    by_bytes None bytes read long h = cc h

    by_test : (t : Bool) → (within 11 137 (length line) && slice_index line 8 == 32) ≡ t
        → (if t then segment_with (bytes_of (take 8 line)) (bytes_of (drop 9 line)) else None) ≡ Some s → 1 ≤ length s.bytes
    by_test true t h =
        let size = and_parts (within 11 137 (length line)) (slice_index line 8 == 32) t in
        let long = and_parts (nat_le 11 (length line)) (nat_le (length line) 137) size.0 in
        by_bytes (bytes_of (take 8 line)) (bytes_of (drop 9 line)) refl (leb-true 11 (length line) long.0) h
    by_test false t h = cc h

line_then-accepted : (all usable : List Region) (number : ℕ) (before : List SegmentValue) (line : List ℕ) (follows : List SegmentValue → Segments) (segments : List SegmentValue)
    → Accepted all before → ((next : List SegmentValue) → Accepted all next → follows next ≡ Ok segments → Accepted all segments)
    → line_then (placed_in all usable) number before line follows ≡ Ok segments → Accepted all segments
line_then-accepted all usable number before [] follows segments accepted step e = step before accepted e
line_then-accepted all usable number before (b ∷ line) follows segments accepted step e = by_segment (segment_of (b ∷ line)) refl e
  where
    by_test : (s : SegmentValue) → 1 ≤ length s.bytes → (t : Option Refusal) → placed_in all usable (length before) (first_sharing 0 s before) s ≡ t
        → unless t (follows (before ++ s ∷ [])) ≡ Ok segments → Accepted all segments
    by_test s some (Some cause) t h = cc h
    by_test s some None t h =
        step (before ++ s ∷ []) (Accepted-push all usable (length before) (first_sharing 0 s before) s before accepted some (λ none. none) t) h

    by_segment : (o : Option SegmentValue) → segment_of (b ∷ line) ≡ o → segment_then (placed_in all usable) number before o follows ≡ Ok segments → Accepted all segments
    by_segment None o h = cc h
    by_segment (Some s) o h = by_test s (segment_of-bytes (b ∷ line) s o) (placed_in all usable (length before) (first_sharing 0 s before) s) refl h

pub segments_from-accepted : (all usable : List Region) (lines : List (List ℕ)) (number : ℕ) (before segments : List SegmentValue) → Accepted all before
    → segments_from (placed_in all usable) number before lines ≡ Ok segments → Accepted all segments
unfolding segments_from
segments_from-accepted all usable [] number before segments accepted e =
    let same : before ≡ segments = cc e in
    rw (← same) accepted
segments_from-accepted all usable (line ∷ lines) number before segments accepted e =
    line_then-accepted all usable number before (without_return line) (λ next. segments_from (placed_in all usable) (number + 1) next lines) segments accepted
    (λ next ok. segments_from-accepted all usable lines (number + 1) next segments ok) e

-- ---- images

-- regions lie below the private peripheral space
in_some-low : (n : ℕ) (regions : List Region) → are_regions regions ≡ true → in_some regions n ≡ true → n < 0xE0000000
in_some-low n [] shaped inside = absurd (false≢true inside)
in_some-low n (r ∷ more) shaped inside =
    let parts = and_parts (is_region r) (are_regions more) shaped in
    elim (or_cases (in_region r n) (in_some more n) inside) [
      | inl here ↦
          let bounds = in_region-bounds r n here in
          let base = and_parts (is_multiple 32 r.base) _ parts.0 in
          let size = and_parts (is_multiple 32 r.size) _ base.1 in
          let some = and_parts (nat_le 32 r.size) (nat_le (r.base + r.size) 0xE0000000) size.1 in
          let low = leb-true (r.base + r.size) 0xE0000000 some.1 in
          omega (arith, low, bounds.1)
      | inr later ↦ in_some-low n more parts.1 later
    ]

placed-ends : (regions : List Region) (segments : List SegmentValue) → are_regions regions ≡ true → are_placed regions segments ≡ true → end_below 0xE0000000 segments ≡ true
placed-ends regions [] shaped placed = refl
placed-ends regions (s ∷ more) shaped placed =
    let parts = and_parts (nat_le 1 (length s.bytes) && lies_in regions s.base (length s.bytes)) (are_placed regions more) placed in
    let lies = and_parts (nat_le 1 (length s.bytes)) (lies_in regions s.base (length s.bytes)) parts.0 in
    let some = leb-true 1 (length s.bytes) lies.0 in
    let last = s.base + (length s.bytes - 1) in
    let inside = lies_in-at regions s.base (length s.bytes) last lies.1 (omega arith) (omega (arith, some)) in
    let low : s.base + (length s.bytes - 1) < 0xE0000000 = in_some-low last regions shaped inside in
    and_from (nat_le (end_of s) 0xE0000000) (end_below 0xE0000000 more) (le-leb (end_of s) 0xE0000000 (omega (arith, low, some))) (placed-ends regions more shaped parts.1)

ends-addressed : (segments : List SegmentValue) → end_below 0xE0000000 segments ≡ true → are_addressed segments ≡ true
ends-addressed [] ends = refl
ends-addressed (s ∷ more) ends =
    let parts = and_parts (nat_le (end_of s) 0xE0000000) (end_below 0xE0000000 more) ends in
    let low = leb-true (end_of s) 0xE0000000 parts.0 in
    let fits : end_of s ≤ 4294967296 = omega (arith, low) in
    and_from (nat_le (end_of s) 4294967296) (are_addressed more) (le-leb (end_of s) 4294967296 fits) (ends-addressed more parts.1)

-- segments that were accepted for the regions of a board are those of an image
pub IsImage-accepted : (regions : List Region) (segments : List SegmentValue) → are_regions regions ≡ true → nat_le (sizes_of regions) most_bytes ≡ true → Accepted regions segments
    → IsImage segments
IsImage-accepted regions segments shaped small accepted =
    let ends = placed-ends regions segments shaped accepted.placed in
    let most = bytes_in-most 0xE0000000 regions segments ends accepted.placed accepted.clear in
    let least = leb-true (sizes_of regions) most_bytes small in
    record {
      addressed = ends-addressed segments ends;
      clear = accepted.clear;
      small = le-leb _ most_bytes (omega (arith, most, least));
    }
