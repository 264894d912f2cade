-- ELF32 images: a file header of 52 bytes, a table of program headers of 32 bytes each, and the bytes that they name.
use Rattle.std.specs.Prelude.{ℕ, zero, suc, ◌+◌, ◌*◌, ◌==◌, Bool, not, ◌&&◌, ◌||◌, nat_le, nat_lt, if◌then◌else◌, List, [], ◌∷◌, ◌++◌, length, take, drop, slice_index, Option, Some, None, option_map, Ok, Err}
use Rattle.std.specs.Int.{to_le_bytes, w16, w32}
use Rattle.tz_model.specs.Image.{SegmentValue}
use Rattle.tz_elf.specs.Placement.{Refusal, Magic, ClassOrOrder, TypeOrMachine, HeaderCut, SegmentCut, Segments, Test, first_sharing, unless}

-- the number of n bytes from a place on, the lowest first
abbrev pub low_first : ℕ → ℕ → List ℕ → ℕ
low_first place zero bytes = 0
low_first place (suc n) bytes = slice_index bytes place + 256 * low_first (suc place) n bytes

-- a field of 2 bytes at a place, and one of 4 bytes
abbrev pub half_field : List ℕ → ℕ → ℕ
half_field bytes place = low_first 0 2 (drop place bytes)

abbrev pub word_field : List ℕ → ℕ → ℕ
word_field bytes place = low_first 0 4 (drop place bytes)

-- the file begins with 0x7F and `ELF`
abbrev pub has_magic : List ℕ → Bool
has_magic file =
    nat_le 4 (length file) && (slice_index file 0 == 0x7F && (slice_index file 1 == 0x45 && (slice_index file 2 == 0x4C && slice_index file 3 == 0x46)))

-- 32 bits (e_ident[EI_CLASS] is 1), the low byte first (e_ident[EI_DATA] is 1)
abbrev pub has_class_and_order : List ℕ → Bool
has_class_and_order file = slice_index file 4 == 1 && slice_index file 5 == 1

-- (own) of the kinds of files that ELF has, only an executable (e_type is 2) for Arm (e_machine is 40) is taken
abbrev pub has_type_and_machine : List ℕ → Bool
has_type_and_machine file = half_field file 16 == 2 && half_field file 18 == 40

-- where the table stands (e_phoff), the size of its entries (e_phentsize) and how many they are (e_phnum)
abbrev pub table_place : List ℕ → ℕ
table_place file = word_field file 28

abbrev pub entry_size : List ℕ → ℕ
entry_size file = half_field file 42

abbrev pub entry_count : List ℕ → ℕ
entry_count file = half_field file 44

-- (own) the table lies in the file, and its entries have no more than the 32 bytes that ELF names; a table without entries may be anywhere
abbrev pub has_table : List ℕ → Bool
has_table file = entry_count file == 0 || (entry_size file == 32 && nat_le (table_place file + 32 * entry_count file) (length file))

-- why the table is refused
abbrev pub table_refusal : List ℕ → Option Refusal
table_refusal file = if has_table file then None else Some HeaderCut

-- (own) why the file header is refused, in this order
abbrev pub header_refusal : List ℕ → Option Refusal
header_refusal file =
    if not (has_magic file) then Some Magic
    else if nat_lt (length file) 52 then Some HeaderCut
    else if not (has_class_and_order file) then Some ClassOrOrder
    else if not (has_type_and_machine file) then Some TypeOrMachine
    else table_refusal file

-- a program header: p_type, p_offset, p_paddr and p_filesz
pub record ProgramHeader : Type 0 where
  pub kind : ℕ
  pub offset : ℕ
  pub address : ℕ
  pub size : ℕ

-- the program header at the beginning of some bytes
abbrev pub program_header : List ℕ → ProgramHeader
program_header bytes = record { kind = word_field bytes 0; offset = word_field bytes 4; address = word_field bytes 12; size = word_field bytes 16 }

-- so many entries of the table, from a place on
unfoldable pub headers_from : List ℕ → ℕ → ℕ → List ProgramHeader
headers_from file place zero = []
headers_from file place (suc n) = program_header (drop place file) ∷ headers_from file (place + 32) n

-- a program header that brings bytes: PT_LOAD (1) with a file size; (own) of the others nothing is asked
abbrev pub brings_bytes : ProgramHeader → Bool
brings_bytes h = h.kind == 1 && not (h.size == 0)

-- the bytes of a program header lie in the file
abbrev pub is_whole : List ℕ → ProgramHeader → Bool
is_whole file h = nat_le (h.offset + h.size) (length file)

-- (own) the segment that a program header brings stands at its physical address, whatever its virtual one is
abbrev pub loaded : List ℕ → ProgramHeader → SegmentValue
loaded file h = record { base = h.address; bytes = take h.size (drop h.offset file) }

-- the number of the program header of the first segment that shares a byte
abbrev pub earlier_header : List ℕ → SegmentValue → List SegmentValue → Option ℕ
earlier_header numbers s before = option_map (slice_index numbers) (first_sharing 0 s before)

-- a program header's segment, tested, goes to what follows, behind those before it, and its index behind theirs
abbrev pub load_then : Test → List ℕ → ℕ → List ℕ → List SegmentValue → ProgramHeader → (List ℕ → List SegmentValue → Segments) → Segments
load_then test file index numbers before h follows =
    if not (brings_bytes h) then follows numbers before
    else if not (is_whole file h) then Err (SegmentCut index)
    else unless (test index (earlier_header numbers (loaded file h) before) (loaded file h))
    (follows (numbers ++ index ∷ []) (before ++ loaded file h ∷ []))

-- the segments of program headers behind those of the headers before, or the first refusal
unfoldable pub loads_from : Test → List ℕ → ℕ → List ℕ → List SegmentValue → List ProgramHeader → Segments
loads_from test file index numbers before [] = Ok before
loads_from test file index numbers before (h ∷ headers) =
    load_then test file index numbers before h (λ numbers before. loads_from test file (index + 1) numbers before headers)

-- the segments of an ELF image
abbrev pub elf_segments : Test → List ℕ → Segments
elf_segments test file =
    unless (header_refusal file) (loads_from test file 0 [] [] (headers_from file (table_place file) (entry_count file)))

-- ---- how an image is written

-- the file header up to e_phnum: e_ident, e_type, e_machine, e_version; e_entry, e_phoff, e_shoff, e_flags, e_ehsize, e_phentsize
abbrev pub fixed_header : List ℕ
fixed_header =
    (0x7F ∷ 0x45 ∷ 0x4C ∷ 0x46 ∷ 1 ∷ 1 ∷ 1 ∷ 0 ∷ []) ++ (0 ∷ 0 ∷ 0 ∷ 0 ∷ 0 ∷ 0 ∷ 0 ∷ 0 ∷ [])
    ++ to_le_bytes w16 2 ++ to_le_bytes w16 40 ++ to_le_bytes w32 1
    ++ to_le_bytes w32 0 ++ to_le_bytes w32 52 ++ to_le_bytes w32 0 ++ to_le_bytes w32 0 ++ to_le_bytes w16 52 ++ to_le_bytes w16 32

-- the file header for so many program headers, without section headers
abbrev pub header_bytes : ℕ → List ℕ
header_bytes count = fixed_header ++ (to_le_bytes w16 count ++ (0 ∷ 0 ∷ 0 ∷ 0 ∷ 0 ∷ 0 ∷ []))

-- p_type (PT_LOAD), p_offset, p_vaddr, p_paddr, p_filesz, p_memsz, p_flags (7) and p_align (1) of bytes that are put at a base
abbrev pub entry_bytes : ℕ → ℕ → ℕ → List ℕ
entry_bytes offset base size =
    to_le_bytes w32 1 ++ (to_le_bytes w32 offset ++ (to_le_bytes w32 base ++ (to_le_bytes w32 base
    ++ (to_le_bytes w32 size ++ (to_le_bytes w32 size ++ (to_le_bytes w32 7 ++ to_le_bytes w32 1))))))

-- the program headers of segments whose bytes stand one behind the other from an offset on
unfoldable pub entries_bytes : ℕ → List SegmentValue → List ℕ
entries_bytes offset [] = []
entries_bytes offset (s ∷ more) = entry_bytes offset s.base (length s.bytes) ++ entries_bytes (offset + length s.bytes) more

-- the bytes of segments, one behind the other
unfoldable pub all_bytes : List SegmentValue → List ℕ
all_bytes [] = []
all_bytes (s ∷ more) = s.bytes ++ all_bytes more

-- the ELF image of segments
abbrev pub elf_bytes : List SegmentValue → List ℕ
elf_bytes segments =
    header_bytes (length segments) ++ (entries_bytes (52 + 32 * length segments) segments ++ all_bytes segments)
