-- The program headers of an ELF image that were accepted one by one give segments that stand in the regions, clear of each other.
use Rattle.std.proofs.Common.{◌≡◌, ◌≤◌, ◌+◌, ◌==◌, ℕ, Bool, true, false, not, refl, arith, List, [], ◌∷◌, ◌++◌, length, take, drop, length-drop, length-take, Option, Some, None, Ok, Err, if◌then◌else◌}
use Rattle.std.specs.Prelude.{option_map, slice_index}
use Rattle.std.proofs.lemmas.Bool.{and_parts, eqb-false, leb-true, not-true}
use Rattle.tz_model.specs.declared.board.Region.{Region}
use Rattle.tz_model.specs.Image.{SegmentValue}
use Rattle.tz_elf.specs.Placement.{Refusal, SegmentCut, Segments, first_sharing, placed_in, unless}
use Rattle.tz_elf.specs.ElfImage.{ProgramHeader, brings_bytes, earlier_header, elf_segments, entry_count, header_refusal, headers_from, is_whole, load_then, loaded, loads_from, table_place}
use Rattle.tz_elf.proofs.Accepted.{Accepted, Accepted-push}

-- a program header that brings bytes which are in the file brings some
loaded-some : (file : List ℕ) (h : ProgramHeader) → brings_bytes h ≡ true → is_whole file h ≡ true → 1 ≤ length (take h.size (drop h.offset file))
loaded-some file h brings whole =
    let parts = and_parts (h.kind == 1) (not (h.size == 0)) brings in
    let some = eqb-false h.size 0 (not-true (h.size == 0) parts.1) in
    let inside = leb-true (h.offset + h.size) (length file) whole in
    simp (length-take, length-drop) (omega (arith, some, inside))

-- no number was found, so no segment was
no_header : (numbers : List ℕ) (s : SegmentValue) (before : List SegmentValue) → earlier_header numbers s before ≡ None → first_sharing 0 s before ≡ None
no_header numbers s before none = by_place (first_sharing 0 s before) none
  where
    by_place : (place : Option ℕ) → option_map (slice_index numbers) place ≡ None → place ≡ None
    by_place None h = refl
    by_place (Some i) h = cc h

load_then-accepted : (all usable : List Region) (file : List ℕ) (index : ℕ) (numbers : List ℕ) (before : List SegmentValue) (h : ProgramHeader)
    (follows : List ℕ → List SegmentValue → Segments) (segments : List SegmentValue) → Accepted all before
    → ((n : List ℕ) (next : List SegmentValue) → Accepted all next → follows n next ≡ Ok segments → Accepted all segments)
    → load_then (placed_in all usable) file index numbers before h follows ≡ Ok segments → Accepted all segments
load_then-accepted all usable file index numbers before h follows segments accepted step e = by_load (brings_bytes h) refl e
  where
    by_test : brings_bytes h ≡ true → is_whole file h ≡ true → (t : Option Refusal) → placed_in all usable index (earlier_header numbers (loaded file h) before) (loaded file h) ≡ t
        → unless t (follows (numbers ++ index ∷ []) (before ++ loaded file h ∷ [])) ≡ Ok segments → Accepted all segments
    by_test brings whole (Some cause) t r = cc r
    by_test brings whole None t r =
        step (numbers ++ index ∷ []) (before ++ loaded file h ∷ [])
        (Accepted-push all usable index (earlier_header numbers (loaded file h) before) (loaded file h) before accepted (loaded-some file h brings whole)
        (no_header numbers (loaded file h) before) t) r

    by_whole : brings_bytes h ≡ true → (w : Bool) → is_whole file h ≡ w
        → (if not w then Err (SegmentCut index)
        else unless (placed_in all usable index (earlier_header numbers (loaded file h) before) (loaded file h)) (follows (numbers ++ index ∷ []) (before ++ loaded file h ∷ [])))
        ≡ Ok segments → Accepted all segments
    by_whole brings false w r = cc r
    by_whole brings true w r = by_test brings w (placed_in all usable index (earlier_header numbers (loaded file h) before) (loaded file h)) refl r

    by_load : (b : Bool) → brings_bytes h ≡ b
        → (if not b then follows numbers before else if not (is_whole file h) then Err (SegmentCut index)
        else unless (placed_in all usable index (earlier_header numbers (loaded file h) before) (loaded file h)) (follows (numbers ++ index ∷ []) (before ++ loaded file h ∷ [])))
        ≡ Ok segments → Accepted all segments
    by_load false b r = step numbers before accepted r
    by_load true b r = by_whole b (is_whole file h) refl r

loads_from-accepted : (all usable : List Region) (file : List ℕ) (headers : List ProgramHeader) (index : ℕ) (numbers : List ℕ) (before segments : List SegmentValue)
    → Accepted all before → loads_from (placed_in all usable) file index numbers before headers ≡ Ok segments → Accepted all segments
unfolding loads_from
loads_from-accepted all usable file [] index numbers before segments accepted e =
    let same : before ≡ segments = cc e in
    rw (← same) accepted
loads_from-accepted all usable file (h ∷ headers) index numbers before segments accepted e =
    load_then-accepted all usable file index numbers before h (λ n next. loads_from (placed_in all usable) file (index + 1) n next headers) segments accepted
    (λ n next ok. loads_from-accepted all usable file headers (index + 1) n next segments ok) e

pub elf_segments-accepted : (all usable : List Region) (file : List ℕ) (segments : List SegmentValue) → elf_segments (placed_in all usable) file ≡ Ok segments → Accepted all segments
elf_segments-accepted all usable file segments e = by_header (header_refusal file) e
  where
    by_header : (r : Option Refusal) → unless r (loads_from (placed_in all usable) file 0 [] [] (headers_from file (table_place file) (entry_count file))) ≡ Ok segments → Accepted all segments
    by_header (Some cause) h = cc h
    by_header None h =
        loads_from-accepted all usable file (headers_from file (table_place file) (entry_count file)) 0 [] [] segments (record { placed = refl; clear = refl }) h
