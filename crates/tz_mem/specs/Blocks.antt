-- Blocks of bytes as regions, and as a finite map.
use Rattle.std.specs.Prelude.{◌≡◌, ℕ, zero, suc, true, false, ◌<◌, ◌+◌, ◌-◌, ◌%◌, ◌^◌, Bool, ◌&&◌, ◌||◌, nat_le, nat_lt, if◌then◌else◌, List, [], ◌∷◌, ◌++◌, length, map, slice_index, slice_set, Option, Some, None, slice_get}
use Rattle.std.specs.FinMap.{from_entries}
use Rattle.std.specs.Int.{w16, w32, from_le_bytes, to_le_bytes}
use Rattle.tz_table.specs.declared.units.Size.{Size}
use Rattle.tz_table.specs.declared.units.Size.TheVariants.{Byte, Half, Word}
use Rattle.tz_model.specs.declared.board.Region.{Region}
use Rattle.tz_model.specs.declared.board.RegionKind.{RegionKind}
use Rattle.tz_model.specs.declared.board.RegionSide.{RegionSide}
use Rattle.tz_model.specs.Board.{in_region, are_apart}
use Rattle.tz_model.specs.Image.{entries_from}
use Rattle.tz_state.specs.Memory as bytes
use Rattle.tz_mem.specs.Values.{MemoryValue}

-- a region with its bytes
pub record BlockValue : Type 0 where
  pub base : ℕ
  pub kind : RegionKind
  pub side : RegionSide
  pub bytes : List ℕ

abbrev pub region_of : BlockValue → Region
region_of k = record { base = k.base; size = length k.bytes; kind = k.kind; side = k.side }

-- the bytes of all blocks with their addresses
abbrev pub entries_of : List BlockValue → List (ℕ × ℕ)
entries_of [] = []
entries_of (k ∷ ks) = entries_from k.base k.bytes ++ entries_of ks

unfoldable pub memory_of : List BlockValue → bytes.Memory
memory_of ks = from_entries (entries_of ks)

abbrev pub view_of : List BlockValue → MemoryValue
view_of ks = record { regions = map region_of ks; bytes = memory_of ks }

-- no two blocks share an address
abbrev pub AreApart : List BlockValue → Type 0
AreApart ks = are_apart (map region_of ks) ≡ true

-- ---- where a byte stands

-- the block holds the address
abbrev pub holds : BlockValue → ℕ → Bool
holds k a = in_region (region_of k) a

-- the byte of the first block that holds the address
abbrev pub byte_in : List BlockValue → ℕ → Option ℕ
byte_in [] a = None
byte_in (k ∷ ks) a = if holds k a then slice_get k.bytes (a - k.base) else byte_in ks a

-- the number of the first block that holds the address, of those from the number i on, and the offset in it
unfoldable pub place_in : ℕ → List BlockValue → ℕ → Option (ℕ × ℕ)
place_in i [] a = None
place_in i (k ∷ ks) a = if holds k a then Some (i, a - k.base) else place_in (i + 1) ks a

-- the first block that holds the address, and the offset in it
abbrev pub IsPlace : List BlockValue → ℕ → ℕ → ℕ → Type 0
IsPlace [] a i j = ⊥
IsPlace (k ∷ ks) a zero j = (k.base + j ≡ a) × (j < length k.bytes)
IsPlace (k ∷ ks) a (suc i) j = (holds k a ≡ false) × IsPlace ks a i j

-- ---- where all bytes of an access stand

-- how many bytes an access has beside its first
abbrev pub more_of : Size → ℕ
more_of Byte = 0
more_of Half = 1
more_of Word = 3

-- the block holds no address from a to this last one
abbrev pub is_apart : BlockValue → ℕ → ℕ → Bool
is_apart k a last = nat_lt last k.base || nat_le (k.base + length k.bytes) a

-- and it holds all of them
abbrev pub holds_all : BlockValue → ℕ → ℕ → Bool
holds_all k a last = nat_le k.base a && nat_lt (last - k.base) (length k.bytes)

-- the place of the byte at a, where the first block that holds any address from a to this last one holds all
unfoldable pub run_in : ℕ → List BlockValue → ℕ → ℕ → Option (ℕ × ℕ)
run_in i [] a last = None
run_in i (k ∷ ks) a last =
    if is_apart k a last then run_in (i + 1) ks a last
    else if holds_all k a last then Some (i, a - k.base)
    else None

-- the first block that holds any address from a to the last holds all of them, and the offset of the first
abbrev pub IsRun : List BlockValue → ℕ → ℕ → ℕ → ℕ → Type 0
IsRun [] a last i j = ⊥
IsRun (k ∷ ks) a last zero j = (k.base + j ≡ a) × (j + (last - a) < length k.bytes)
IsRun (k ∷ ks) a last (suc i) j = (is_apart k a last ≡ true) × IsRun ks a last i j

-- ---- numbers in a list of bytes, the low byte first

abbrev pub number_in : List ℕ → ℕ → Size → ℕ
number_in bs j Byte = slice_index bs j
number_in bs j Half = from_le_bytes w16 (slice_index bs j ∷ slice_index bs (j + 1) ∷ [])
number_in bs j Word =
    from_le_bytes w32 (slice_index bs j ∷ slice_index bs (j + 1) ∷ slice_index bs (j + 2) ∷ slice_index bs (j + 3) ∷ [])

-- the bytes of a number that is cut to a size
abbrev pub bytes_of : Size → ℕ → List ℕ
bytes_of Byte n = n % 2 ^ 8 ∷ []
bytes_of Half n =
    let low = to_le_bytes w16 (n % 2 ^ 16) in slice_index low 0 ∷ slice_index low 1 ∷ []
bytes_of Word n =
    let all = to_le_bytes w32 n in slice_index all 0 ∷ slice_index all 1 ∷ slice_index all 2 ∷ slice_index all 3 ∷ []

-- bytes written over others, from an offset on
abbrev pub over : List ℕ → ℕ → List ℕ → List ℕ
over xs j [] = xs
over xs j (b ∷ bs) = over (slice_set xs j b) (j + 1) bs

abbrev pub written_over : BlockValue → ℕ → List ℕ → BlockValue
written_over k j bs = record k { bytes = over k.bytes j bs }
