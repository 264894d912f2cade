-- A file whose segments pass a test has the same segments without it.
use Rattle.std.proofs.Common.{◌≡◌, ℕ, ◌+◌, Bool, true, false, cond, List, [], ◌∷◌, ◌++◌, length, Option, Some, None, Result, Ok, Err, ap}
use Rattle.std.specs.Prelude.{not, slice_index, ◌==◌}
use Rattle.tz_syntax.specs.Lines.{lines_of}
use Rattle.tz_table.specs.declared.units.Side.{Side}
use Rattle.tz_model.specs.Board.{BoardValue}
use Rattle.tz_model.specs.Image.{ImageValue, SegmentValue}
use Rattle.tz_elf.specs.ElfImage.{ProgramHeader, brings_bytes, earlier_header, elf_segments, entry_count, header_refusal, headers_from, is_whole, load_then, loaded, loads_from, table_place}
use Rattle.tz_elf.specs.Images.{image_of, pairs_in, pairs_of, pairs_with, segments_of}
use Rattle.tz_elf.specs.Placement.{Refusal, Segments, Test, first_sharing, image_with, no_test, place_test, unless}
use Rattle.tz_elf.specs.PlainImage.{line_then, plain_segments, segment_of, segment_then, segments_from, without_return}

-- what isn't refused is what follows
not_refused : (o : Option Refusal) (follows : Segments) (v : List SegmentValue) → unless o follows ≡ Ok v → follows ≡ Ok v
not_refused None follows v h = h
not_refused (Some cause) follows v h = cc

-- ---- plain images

untested_segment : (test : Test) (number : ℕ) (before : List SegmentValue) (o : Option SegmentValue) (follows follows' : List SegmentValue → Segments) (v : List SegmentValue)
    → ((after : List SegmentValue) → follows after ≡ Ok v → follows' after ≡ Ok v) → segment_then test number before o follows ≡ Ok v → segment_then no_test number before o follows' ≡ Ok v
untested_segment test number before None follows follows' v go h = cc
untested_segment test number before (Some s) follows follows' v go h =
    go (before ++ s ∷ []) (not_refused (test (length before) (first_sharing 0 s before) s) (follows (before ++ s ∷ [])) v h)

untested_line : (test : Test) (number : ℕ) (before : List SegmentValue) (line : List ℕ) (follows follows' : List SegmentValue → Segments) (v : List SegmentValue)
    → ((after : List SegmentValue) → follows after ≡ Ok v → follows' after ≡ Ok v) → line_then test number before line follows ≡ Ok v → line_then no_test number before line follows' ≡ Ok v
untested_line test number before [] follows follows' v go h = go before h
untested_line test number before (b ∷ line) follows follows' v go h = untested_segment test number before (segment_of (b ∷ line)) follows follows' v go h

untested_lines : (test : Test) (number : ℕ) (before : List SegmentValue) (lines : List (List ℕ)) (v : List SegmentValue) → segments_from test number before lines ≡ Ok v
    → segments_from no_test number before lines ≡ Ok v
unfolding segments_from
untested_lines test number before [] v h = h
untested_lines test number before (line ∷ lines) v h =
    untested_line test number before (without_return line) (λ after. segments_from test (number + 1) after lines) (λ after. segments_from no_test (number + 1) after lines) v
    (λ after. untested_lines test (number + 1) after lines v) h

-- ---- ELF images

untested_load : (test : Test) (file : List ℕ) (index : ℕ) (numbers : List ℕ) (before : List SegmentValue) (h : ProgramHeader) (follows follows' : List ℕ → List SegmentValue → Segments) (v : List SegmentValue)
    → ((ns : List ℕ) (after : List SegmentValue) → follows ns after ≡ Ok v → follows' ns after ≡ Ok v) → load_then test file index numbers before h follows ≡ Ok v
    → load_then no_test file index numbers before h follows' ≡ Ok v
untested_load test file index numbers before h follows follows' v go e = by_tests (not (brings_bytes h)) (not (is_whole file h)) e
  where
    by_tests : (skipped cut : Bool)
        → cond skipped (follows numbers before) (cond cut (Err (Refusal.SegmentCut index)) (unless (test index (earlier_header numbers (loaded file h) before) (loaded file h)) (follows (numbers ++ index ∷ []) (before ++ loaded file h ∷ [])))) ≡ Ok v
        → cond skipped (follows' numbers before) (cond cut (Err (Refusal.SegmentCut index)) (follows' (numbers ++ index ∷ []) (before ++ loaded file h ∷ []))) ≡ Ok v
    by_tests true cut x = go numbers before x
    by_tests false true x = cc
    by_tests false false x = go (numbers ++ index ∷ []) (before ++ loaded file h ∷ [])
        (not_refused (test index (earlier_header numbers (loaded file h) before) (loaded file h)) (follows (numbers ++ index ∷ []) (before ++ loaded file h ∷ [])) v x)

untested_loads : (test : Test) (file : List ℕ) (index : ℕ) (numbers : List ℕ) (before : List SegmentValue) (headers : List ProgramHeader) (v : List SegmentValue)
    → loads_from test file index numbers before headers ≡ Ok v → loads_from no_test file index numbers before headers ≡ Ok v
unfolding loads_from
untested_loads test file index numbers before [] v h = h
untested_loads test file index numbers before (header ∷ headers) v h =
    untested_load test file index numbers before header (λ ns after. loads_from test file (index + 1) ns after headers) (λ ns after. loads_from no_test file (index + 1) ns after headers) v
    (λ ns after. untested_loads test file (index + 1) ns after headers v) h

untested_elf : (test : Test) (file : List ℕ) (o : Option Refusal) (headers : List ProgramHeader) (v : List SegmentValue) → unless o (loads_from test file 0 [] [] headers) ≡ Ok v
    → unless o (loads_from no_test file 0 [] [] headers) ≡ Ok v
untested_elf test file None headers v h = untested_loads test file 0 [] [] headers v h
untested_elf test file (Some cause) headers v h = cc

-- ---- files

untested : (test : Test) (file : List ℕ) (v : List SegmentValue) → segments_of test file ≡ Ok v → segments_of no_test file ≡ Ok v
untested test file v h = by_format (slice_index file 0 == 127) h
  where
    by_format : (elf : Bool) → cond elf (elf_segments test file) (plain_segments test file) ≡ Ok v → cond elf (elf_segments no_test file) (plain_segments no_test file) ≡ Ok v
    by_format true x = untested_elf test file (header_refusal file) (headers_from file (table_place file) (entry_count file)) v x
    by_format false x = untested_lines test 1 [] (lines_of file) v x

segments_with : (r : Segments) (image : ImageValue) → image_with r ≡ Ok image → r ≡ Ok image.segments
segments_with (Ok segments) image h = ap (λ (x : Result ImageValue Refusal). list_of x) h
  where
    list_of : Result ImageValue Refusal → Segments
    list_of (Ok i) = Ok i.segments
    list_of (Err cause) = Err cause
segments_with (Err cause) image h = cc

-- the image of a file has the addresses and bytes of the file
pub has_pairs : (file : List ℕ) (board : BoardValue) (side : Side) (image : ImageValue) → image_of file board side ≡ Ok image → pairs_of file ≡ Ok (pairs_in image.segments)
unfolding image_of pairs_of
has_pairs file board side image h = ap pairs_with (untested (place_test board side) file image.segments (segments_with (segments_of (place_test board side) file) image h))
