-- An ELF image that was written reads back as the addresses and bytes of its segments.
use Rattle.std.proofs.Common.{◌≡◌, ◌∙◌, ◌<◌, ◌≤◌, ◌+◌, ◌-◌, ◌*◌, ◌/◌, ◌%◌, ◌==◌, ℕ, true, false, ◌&&◌, zero, suc, refl, sym, ap, arith, List, [], ◌∷◌, ◌++◌, append_assoc, length, length-append, take, drop, None, Ok, inl, inr}
use Rattle.std.specs.Prelude.{nat_le}
use Rattle.std.proofs.lemmas.Bool.{and_parts, cases_lt, le-leb, leb-true, ne_eqb, or_right}
use Rattle.std.proofs.lemmas.List.{append-nil}
use Rattle.tz_model.specs.Image.{SegmentValue, are_addressed, bytes_in, end_of}
use Rattle.tz_model.specs.Image.{entries_from}
use Rattle.tz_elf.specs.Placement.{no_test}
use Rattle.tz_elf.specs.ElfImage.{ProgramHeader, all_bytes, brings_bytes, elf_bytes, elf_segments, entries_bytes, entry_bytes, entry_count, entry_size, has_table, header_bytes, header_refusal, headers_from, is_whole, loaded, loads_from, program_header, table_place}
use Rattle.tz_elf.specs.Images.{pairs_in, pairs_of, pairs_with}
use Rattle.tz_elf.proofs.Counting.{lengths, lengths-bytes_in}
use Rattle.tz_elf.proofs.ReadBack.{pairs_in-push}
use Rattle.tz_elf.proofs.Headers.{elf_segments-start, header_refusal-table}

-- ---- program headers

-- a number of 4 bytes, as it is read
abbrev low_word : ℕ → ℕ
low_word n = n % 256 + 256 * (n / 256 % 256 + 256 * (n / 65536 % 256 + 256 * (n / 16777216 % 256 + 256 * 0)))

low_word-fits : (n : ℕ) → n < 4294967296 → low_word n ≡ n
low_word-fits n fits = omega arith

-- what the program headers of segments say
abbrev header_of : ℕ → SegmentValue → ProgramHeader
header_of offset s = record { kind = 1; offset = offset; address = low_word s.base; size = length s.bytes }

abbrev headers_of : ℕ → List SegmentValue → List ProgramHeader
headers_of offset [] = []
headers_of offset (s ∷ more) = header_of offset s ∷ headers_of (offset + length s.bytes) more

entry-header : (offset : ℕ) (s : SegmentValue) (rest : List ℕ) → offset < 4294967296 → length s.bytes < 4294967296
    → program_header (entry_bytes offset s.base (length s.bytes) ++ rest) ≡ header_of offset s
entry-header offset s rest o z = rw (low_word-fits offset o, low_word-fits (length s.bytes) z) refl

drop-front : (place : ℕ) (front rest : List ℕ) → length front ≡ place → drop place (front ++ rest) ≡ rest
drop-front zero [] rest h = refl
drop-front (suc place) [] rest h = absurd (omega arith)
drop-front zero (x ∷ front) rest h = absurd (omega arith)
drop-front (suc place) (x ∷ front) rest h = drop-front place front rest (omega arith)

take-front : (front rest : List ℕ) → take (length front) (front ++ rest) ≡ front
take-front [] rest = refl
take-front (x ∷ front) rest = ap (λ (xs : List ℕ). x ∷ xs) (take-front front rest)

-- the table of program headers, read entry by entry
headers_from-entries : (segments : List SegmentValue) (offset place : ℕ) (front rest file : List ℕ) → file ≡ front ++ (entries_bytes offset segments ++ rest) → length front ≡ place
    → offset + lengths segments < 4294967296 → headers_from file place (length segments) ≡ headers_of offset segments
unfolding headers_from entries_bytes
headers_from-entries [] offset place front rest file is at room = refl
headers_from-entries (s ∷ more) offset place front rest file is at room =
    let entry = entry_bytes offset s.base (length s.bytes) in
    let behind = entries_bytes (offset + length s.bytes) more ++ rest in
    let whole : file ≡ front ++ (entry ++ behind) = is ∙ ap (λ (xs : List ℕ). front ++ xs) (append_assoc entry (entries_bytes (offset + length s.bytes) more) rest) in
    let next : file ≡ (front ++ entry) ++ behind = whole ∙ sym (append_assoc front entry behind) in
    let size : length (front ++ entry) ≡ place + 32 = length-append front entry ∙ ap (λ (n : ℕ). n + 32) at in
    let here : program_header (drop place file) ≡ header_of offset s =
    ap program_header (ap (drop place) whole ∙ drop-front place front (entry ++ behind) at) ∙ entry-header offset s behind (omega arith) (omega arith) in
    let more_headers = headers_from-entries more (offset + length s.bytes) (place + 32) (front ++ entry) rest file next size (omega arith) in
    ap (λ (h : ProgramHeader). h ∷ headers_from file (place + 32) (length more)) here ∙ ap (λ (hs : List ProgramHeader). header_of offset s ∷ hs) more_headers

-- ---- the bytes

-- program headers were read: the segments, which have these pairs more
record Loaded (file : List ℕ) (index : ℕ) (numbers : List ℕ) (before : List SegmentValue) (headers : List ProgramHeader) (pairs : List (ℕ × ℕ)) : Type 0 where
  after : List SegmentValue
  read : loads_from no_test file index numbers before headers ≡ Ok after
  more : pairs_in after ≡ pairs_in before ++ pairs

no_entries : (base : ℕ) (bytes : List ℕ) → length bytes ≡ 0 → entries_from base bytes ≡ []
no_entries base [] h = refl
no_entries base (b ∷ bytes) h = absurd (omega arith)

read_loads : (segments : List SegmentValue) (index offset : ℕ) (numbers : List ℕ) (before : List SegmentValue) (front file : List ℕ) → file ≡ front ++ all_bytes segments
    → length front ≡ offset → are_addressed segments ≡ true → Loaded file index numbers before (headers_of offset segments) (pairs_in segments)
unfolding loads_from all_bytes
read_loads [] index offset numbers before front file is at ends = record { after = before; read = refl; more = sym (append-nil (pairs_in before)) }
read_loads (s ∷ more) index offset numbers before front file is at ends =
    let parts = and_parts (nat_le (end_of s) 4294967296) (are_addressed more) ends in
    let next : file ≡ (front ++ s.bytes) ++ all_bytes more = is ∙ sym (append_assoc front s.bytes (all_bytes more)) in
    let size : length (front ++ s.bytes) ≡ offset + length s.bytes = length-append front s.bytes ∙ ap (λ (n : ℕ). n + length s.bytes) at in
    elim (cases_lt 0 (length s.bytes)) [
      | inr empty ↦
          let none : length s.bytes ≡ 0 = omega arith in
          let rest = read_loads more (index + 1) (offset + length s.bytes) numbers before (front ++ s.bytes) file next size parts.1 in
          let skipped : brings_bytes (header_of offset s) ≡ false = rw none refl in
          record {
            after = rest.after;
            read = rw skipped rest.read;
            more = rest.more ∙ ap (λ (p : List (ℕ × ℕ)). pairs_in before ++ (p ++ pairs_in more)) (sym (no_entries s.base s.bytes none));
          }
      | inl some ↦
          let end = leb-true (end_of s) 4294967296 parts.0 in
          let inside : length file ≡ offset + length s.bytes + length (all_bytes more) =
          ap length next ∙ length-append (front ++ s.bytes) (all_bytes more) ∙ ap (λ (n : ℕ). n + length (all_bytes more)) size in
          let brings : brings_bytes (header_of offset s) ≡ true = rw (ne_eqb (length s.bytes) 0 (omega arith)) refl in
          let whole : is_whole file (header_of offset s) ≡ true = le-leb (offset + length s.bytes) (length file) (omega (arith, inside)) in
          let bytes : take (length s.bytes) (drop offset file) ≡ s.bytes =
          ap (λ (xs : List ℕ). take (length s.bytes) (drop offset xs)) is ∙ ap (take (length s.bytes)) (drop-front offset front (s.bytes ++ all_bytes more) at)
          ∙ take-front s.bytes (all_bytes more) in
          let base : low_word s.base ≡ s.base = low_word-fits s.base (omega (arith, end)) in
          let rest = read_loads more (index + 1) (offset + length s.bytes) (numbers ++ index ∷ []) (before ++ loaded file (header_of offset s) ∷ []) (front ++ s.bytes) file next size parts.1 in
          record {
            after = rest.after;
            read = rw (brings, whole) rest.read;
            more = rest.more ∙ ap (λ (p : List (ℕ × ℕ)). p ++ pairs_in more) (pairs_in-push before (loaded file (header_of offset s)))
                ∙ append_assoc (pairs_in before) (entries_from (low_word s.base) (take (length s.bytes) (drop offset file))) (pairs_in more)
                ∙ ap (λ (n : ℕ). pairs_in before ++ (entries_from n (take (length s.bytes) (drop offset file)) ++ pairs_in more)) base
                ∙ ap (λ (xs : List ℕ). pairs_in before ++ (entries_from s.base xs ++ pairs_in more)) bytes;
          }
    ]

-- ---- the whole

length-entries_bytes : (offset : ℕ) (segments : List SegmentValue) → length (entries_bytes offset segments) ≡ 32 * length segments
unfolding entries_bytes
length-entries_bytes offset [] = refl
length-entries_bytes offset (s ∷ more) =
    let rest = length-entries_bytes (offset + length s.bytes) more in
    omega (arith, rest)

half-fits : (n : ℕ) → n < 65536 → n % 256 + 256 * (n / 256 % 256 + 256 * 0) ≡ n
half-fits n fits = omega arith

length-header : (count : ℕ) (rest : List ℕ) → length (header_bytes count ++ rest) ≡ 52 + length rest
length-header count rest = omega arith

header-right : (count : ℕ) (rest : List ℕ) → count < 65536 → 32 * count ≤ length rest → header_refusal (header_bytes count ++ rest) ≡ None
header-right count rest few room =
    let file = header_bytes count ++ rest in
    let size = length-header count rest in
    let entries : entry_count file ≡ count = half-fits count few in
    let inside : nat_le (table_place file + 32 * entry_count file) (length file) ≡ true =
    le-leb (table_place file + 32 * entry_count file) (length file) (rw entries (omega (arith, size, room))) in
    let table : has_table file ≡ true = or_right (entry_count file == 0) (entry_size file == 32 && nat_le (table_place file + 32 * entry_count file) (length file)) inside in
    header_refusal-table file (omega (arith, size)) refl refl refl refl refl refl refl refl ∙ rw table refl

-- the ELF image of segments has their addresses and bytes
pub pairs_of-elf_bytes : (segments : List SegmentValue) → length segments < 65536 → bytes_in segments ≤ 4194304 → are_addressed segments ≡ true
    → pairs_of (elf_bytes segments) ≡ Ok (pairs_in segments)
unfolding pairs_of
pairs_of-elf_bytes segments few small ends =
    let count = length segments in
    let file = elf_bytes segments in
    let entries = entries_bytes (52 + 32 * count) segments in
    let size = length-entries_bytes (52 + 32 * count) segments in
    let total = lengths-bytes_in segments in
    let right = header-right count (entries ++ all_bytes segments) few (omega (arith, size, length-append entries (all_bytes segments))) in
    let start = elf_segments-start no_test file 52 count [] [] right refl (half-fits count few) refl refl in
    let all : count - 0 ≡ count = omega arith in
    let headers : headers_from file 52 (count - 0) ≡ headers_of (52 + 32 * count) segments =
    ap (headers_from file 52) all ∙ headers_from-entries segments (52 + 32 * count) 52 (header_bytes count) (all_bytes segments) file refl refl (omega (arith, total)) in
    let front : file ≡ (header_bytes count ++ entries) ++ all_bytes segments = sym (append_assoc (header_bytes count) entries (all_bytes segments)) in
    let loads = read_loads segments 0 (52 + 32 * count) [] [] (header_bytes count ++ entries) file front (omega (arith, size, length-header count entries)) ends in
    let read : elf_segments no_test file ≡ Ok loads.after =
    start ∙ ap (λ (hs : List ProgramHeader). loads_from no_test file 0 [] [] hs) headers ∙ loads.read in
    ap pairs_with read ∙ ap Ok loads.more
