-- Board files (own): the board that a file describes, or the first reason to refuse it.
use Rattle.std.specs.Prelude.{ℕ, ℤ, pos, negsuc, ◌+◌, ◌-◌, ◌%◌, ◌==◌, nat_le, Bool, false, ◌&&◌, if◌then◌else◌, List, [], ◌∷◌, ◌++◌, length, codes, Option, Some, None, Result, Ok, Err}
use Rattle.std.specs.Str.{bytes_eq, is_utf8}
use Rattle.toml.specs.Data.{Data, Items, no_items, item, Members, as_array, as_bool, as_integer, as_str, as_table, get_member}
use Rattle.toml.specs.Parse.{parse_document}
use Rattle.tz_model.specs.Board.{BoardValue, within, is_apart, bytes_of, most_bytes}
use Rattle.tz_model.specs.declared.board.Profile.{Profile as ProfileValue}
use Rattle.tz_model.specs.declared.board.Profile.TheVariants.{V80, V81}
use Rattle.tz_model.specs.declared.board.Region.{Region as RegionValue}
use Rattle.tz_model.specs.declared.board.RegionKind.{RegionKind}
use Rattle.tz_model.specs.declared.board.RegionKind.TheVariants.{Rom, Ram}
use Rattle.tz_model.specs.declared.board.RegionSide.{RegionSide}
use Rattle.tz_model.specs.declared.board.RegionSide.TheVariants as sides
use Rattle.tz_model.specs.declared.board.SauRegion.{SauRegion}

-- the keys of a board file
pub data Key : Type 0 where
  SecureVtor NonsecureVtor Interrupts SauRegions MpuSecure MpuNonsecure Profile Mover : Key
  Region Base Size Kind Side : Key
  Sau Limit Nsc : Key

-- how a key is written
abbrev pub key_text : Key → List ℕ
key_text SecureVtor = codes "secure_vtor"
key_text NonsecureVtor = codes "nonsecure_vtor"
key_text Interrupts = codes "interrupts"
key_text SauRegions = codes "sau_regions"
key_text MpuSecure = codes "mpu_secure"
key_text MpuNonsecure = codes "mpu_nonsecure"
key_text Profile = codes "profile"
key_text Mover = codes "mover"
key_text Region = codes "region"
key_text Base = codes "base"
key_text Size = codes "size"
key_text Kind = codes "kind"
key_text Side = codes "side"
key_text Sau = codes "sau"
key_text Limit = codes "limit"
key_text Nsc = codes "nsc"

-- where a key stands: at the top, in the table of a region, in the table of an SAU region
pub data Place : Type 0 where
  Top : Key → Place
  InRegion : ℕ → Key → Place
  InSau : ℕ → Key → Place

-- the key of a place
abbrev pub key_at : Place → Key
key_at (Top key) = key
key_at (InRegion index key) = key
key_at (InSau index key) = key

-- why a board file is refused; an overlap names the two regions, the earlier first
pub data BoardRefusal : Type 0 where
  NotToml : BoardRefusal
  Missing : Place → BoardRefusal
  WrongKind : Place → BoardRefusal
  Range : Place → BoardRefusal
  TooMany : BoardRefusal
  Overlap : ℕ → ℕ → BoardRefusal

-- what a part of a board file gives
abbrev pub Read : Type 0 → Type 0
Read A = Result A BoardRefusal

-- one reading after another; the first refusal is the refusal of both
infixl 10 ◌>>=◌
abbrev pub ◌>>=◌ : {A B : Type 0} → Read A → (A → Read B) → Read B
Ok x >>= f = f x
Err e >>= f = Err e

-- what the table holds at the key of a place
abbrev pub found_at : Place → Members → Option Data
found_at place ms = get_member (key_text (key_at place)) ms

-- the value at a required key
abbrev pub required : Place → Option Data → Read Data
required place None = Err (Missing place)
required place (Some d) = Ok d

-- a value of the kind that the key asks for
abbrev pub of_kind : {A : Type 0} → Place → Option A → Read A
of_kind place None = Err (WrongKind place)
of_kind place (Some x) = Ok x

-- an integer from `low` to `high`, a multiple of `unit`
abbrev pub in_range : Place → ℕ → ℕ → ℕ → ℤ → Read ℕ
in_range place low high unit (pos n) = if within low high n && n % unit == 0 then Ok n else Err (Range place)
in_range place low high unit (negsuc n) = Err (Range place)

-- the number at a key
-- the number at a key, which is within bounds and a multiple of a unit
abbrev pub bounded_number_at : Place → ℕ → ℕ → ℕ → Members → Read ℕ
bounded_number_at place low high unit ms = do
  d ← required place (found_at place ms)
  z ← of_kind place (as_integer d)
  in_range place low high unit z

-- the text at a key
abbrev pub text_at : Place → Members → Read (List ℕ)
text_at place ms = do
  d ← required place (found_at place ms)
  of_kind place (as_str d)

-- the boolean at a key
abbrev pub flag_at : Place → Members → Read Bool
flag_at place ms = do
  d ← required place (found_at place ms)
  of_kind place (as_bool d)

-- what a region takes, by name
abbrev pub kind_named : Place → List ℕ → Read RegionKind
kind_named place text = if bytes_eq text (codes "rom") then Ok Rom
    else if bytes_eq text (codes "ram") then Ok Ram else Err (Range place)

-- what a region takes, at a key
abbrev pub kind_at : Place → Members → Read RegionKind
kind_at place ms = text_at place ms >>= kind_named place

-- how a region is attributed, by name
abbrev pub side_named : Place → List ℕ → Read RegionSide
side_named place text = if bytes_eq text (codes "secure") then Ok sides.Secure
    else if bytes_eq text (codes "nsc") then Ok sides.Nsc
    else if bytes_eq text (codes "nonsecure") then Ok sides.NonSecure else Err (Range place)

-- how a region is attributed, at a key
abbrev pub side_at : Place → Members → Read RegionSide
side_at place ms = text_at place ms >>= side_named place

-- the version of the architecture, by name
abbrev pub profile_named : Place → List ℕ → Read ProfileValue
profile_named place text = if bytes_eq text (codes "v8.0") then Ok V80
    else if bytes_eq text (codes "v8.1") then Ok V81 else Err (Range place)

-- the profile, which is v8.0 where the file has none
abbrev pub profile_in : Place → Option Data → Read ProfileValue
profile_in place None = Ok V80
profile_in place (Some d) = of_kind place (as_str d) >>= profile_named place

-- the profile at a key, which may be absent
abbrev pub profile_at : Place → Members → Read ProfileValue
profile_at place ms = profile_in place (found_at place ms)

-- whether there is a mover, which the board hasn't where the file says nothing
abbrev pub mover_in : Place → Option Data → Read Bool
mover_in place None = Ok false
mover_in place (Some d) = of_kind place (as_bool d)

-- the mover at a key, which may be absent
abbrev pub mover_at : Place → Members → Read Bool
mover_at place ms = mover_in place (found_at place ms)

-- a region: its base, and a size that ends it at or below 0xE0000000
abbrev pub region_in : ℕ → Members → Read RegionValue
region_in index ms = do
  base ← bounded_number_at (InRegion index Base) 0 0xFFFFFFFF 32 ms
  size ← bounded_number_at (InRegion index Size) 32 (0xE0000000 - base) 32 ms
  kind ← kind_at (InRegion index Kind) ms
  side ← side_at (InRegion index Side) ms
  Ok (record { base = base; size = size; kind = kind; side = side })

-- the last byte of a block of 32
abbrev pub last_in_block : Place → ℕ → Read ℕ
last_in_block place n = if n % 32 == 31 then Ok n else Err (Range place)

-- an SAU region: its first byte, and its last one, which isn't below it
abbrev pub sau_region_in : ℕ → Members → Read SauRegion
sau_region_in index ms = do
  base ← bounded_number_at (InSau index Base) 0 0xFFFFFFFF 32 ms
  limit ← bounded_number_at (InSau index Limit) base 0xFFFFFFFF 1 ms >>= last_in_block (InSau index Limit)
  nsc ← flag_at (InSau index Nsc) ms
  Ok (record { base = base; limit = limit; nsc = nsc })

-- a table in front of others
abbrev pub with_table : Option Members → Option (List Members) → Option (List Members)
with_table None tables = None
with_table (Some table) None = None
with_table (Some table) (Some tables) = Some (table ∷ tables)

-- the tables of a list, unless some item is no table
unfoldable pub tables_of : Items → Option (List Members)
tables_of no_items = Some []
tables_of (item d more) = with_table (as_table d) (tables_of more)

-- the tables at a key whose value is to be a list of tables
abbrev pub tables_in : Place → Data → Read (List Members)
tables_in place d = do
  items ← of_kind place (as_array d)
  of_kind place (tables_of items)

-- what is read from each table, the first of which has an index
unfoldable pub each : {A : Type 0} → (ℕ → Members → Read A) → ℕ → List Members → Read (List A)
each read index [] = Ok []
each read index (table ∷ more) = do
  x ← read index table
  xs ← each read (index + 1) more
  Ok (x ∷ xs)

-- at least one table
abbrev pub some_table : List Members → Read (List Members)
some_table [] = Err (Missing (Top Region))
some_table (table ∷ more) = Ok (table ∷ more)

-- the regions of a list of tables, of which there is at least one
abbrev pub regions_listed : Data → Read (List RegionValue)
regions_listed d = do
  tables ← tables_in (Top Region) d
  tables ← some_table tables
  each region_in 0 tables

-- the regions of a board file
abbrev pub regions_at : Members → Read (List RegionValue)
regions_at ms = required (Top Region) (found_at (Top Region) ms) >>= regions_listed

-- the SAU regions of a list of tables
abbrev pub sau_listed : Data → Read (List SauRegion)
sau_listed d = tables_in (Top Sau) d >>= each sau_region_in 0

-- the SAU regions, of which there may be none
abbrev pub sau_in : Option Data → Read (List SauRegion)
sau_in None = Ok []
sau_in (Some d) = sau_listed d

-- the SAU regions of a board file
abbrev pub sau_at : Members → Read (List SauRegion)
sau_at ms = sau_in (found_at (Top Sau) ms)

-- the least region, counted from `index` on, that shares a byte with a region
unfoldable pub first_shared : ℕ → List RegionValue → RegionValue → Option ℕ
first_shared index [] r = None
first_shared index (q ∷ more) r = if is_apart q r then first_shared (index + 1) more r else Some index

-- a region that shares a byte with an earlier one, before those of later regions
abbrev pub shared_first : Option ℕ → ℕ → Option (ℕ × ℕ) → Option (ℕ × ℕ)
shared_first (Some i) j later = Some (i, j)
shared_first None j later = later

-- the least region that shares a byte with an earlier one, after the least such earlier one
unfoldable pub first_overlap : List RegionValue → List RegionValue → Option (ℕ × ℕ)
first_overlap earlier [] = None
first_overlap earlier (r ∷ more) =
    shared_first (first_shared 0 earlier r) (length earlier) (first_overlap (earlier ++ r ∷ []) more)

-- at most 32 regions of 4 MiB together, and as many SAU regions as the board has
abbrev pub is_small : BoardValue → Bool
is_small b = nat_le (length b.regions) 32 && (nat_le (length b.sau) b.sau_regions && nat_le (bytes_of b.regions) most_bytes)

-- the board, unless there is an overlap
abbrev pub without_overlap : Option (ℕ × ℕ) → BoardValue → Read BoardValue
without_overlap None b = Ok b
without_overlap (Some pair) b = Err (Overlap pair.0 pair.1)

-- a board within the limits, no two of whose regions share a byte
abbrev pub within_limits : BoardValue → Read BoardValue
within_limits b = if is_small b then without_overlap (first_overlap [] b.regions) b else Err TooMany

-- the six numbers at the top of a board file
pub record Numbers : Type 0 where
  pub secure_vtor : ℕ
  pub nonsecure_vtor : ℕ
  pub interrupts : ℕ
  pub sau_regions : ℕ
  pub mpu_secure : ℕ
  pub mpu_nonsecure : ℕ

-- the numbers in their order, each with its range
abbrev pub numbers_at : Members → Read Numbers
numbers_at ms = do
  secure_vtor ← bounded_number_at (Top SecureVtor) 0 0xFFFFFFFF 128 ms
  nonsecure_vtor ← bounded_number_at (Top NonsecureVtor) 0 0xFFFFFFFF 128 ms
  interrupts ← bounded_number_at (Top Interrupts) 1 240 1 ms
  sau_regions ← bounded_number_at (Top SauRegions) 0 8 1 ms
  mpu_secure ← bounded_number_at (Top MpuSecure) 0 16 1 ms
  mpu_nonsecure ← bounded_number_at (Top MpuNonsecure) 0 16 1 ms
  Ok (record {
    secure_vtor = secure_vtor;
    nonsecure_vtor = nonsecure_vtor;
    interrupts = interrupts;
    sau_regions = sau_regions;
    mpu_secure = mpu_secure;
    mpu_nonsecure = mpu_nonsecure;
  })

-- the board of its parts
abbrev pub board_with : Numbers → ProfileValue → Bool → List RegionValue → List SauRegion → BoardValue
board_with n profile mover regions sau = record {
  secure_vtor = n.secure_vtor;
  nonsecure_vtor = n.nonsecure_vtor;
  interrupts = n.interrupts;
  sau_regions = n.sau_regions;
  mpu_secure = n.mpu_secure;
  mpu_nonsecure = n.mpu_nonsecure;
  profile = profile;
  mover = mover;
  regions = regions;
  sau = sau;
}

-- the board of a document: each key in its order, and then the limits
unfoldable pub board_in : Members → Read BoardValue
board_in ms = do
  numbers ← numbers_at ms
  profile ← profile_at (Top Profile) ms
  mover ← mover_at (Top Mover) ms
  regions ← regions_at ms
  sau ← sau_at ms
  within_limits (board_with numbers profile mover regions sau)

-- the document in the bytes of a file, which are to be UTF-8
unfoldable pub document_of : List ℕ → Option Members
document_of bytes = if is_utf8 bytes then parse_document bytes else None

-- a document, which there has to be
abbrev pub documented : Option Members → Read Members
documented None = Err NotToml
documented (Some ms) = Ok ms

-- the board in the bytes of a file
unfoldable pub board_of : List ℕ → Read BoardValue
board_of bytes = documented (document_of bytes) >>= board_in
