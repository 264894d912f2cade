-- The addresses that segments take, as ranges by their first addresses.
use Rattle.std.specs.Prelude.{◌≡◌, ◌<◌, ◌≤◌, ◌⊎◌, ℕ, List, [], ◌∷◌, Some, None}
use Rattle.std.specs.BTreeMap.{BTreeMap, get}
use Rattle.std.specs.Ordering.{nat_cmp}
use Rattle.tz_model.specs.Image.{SegmentValue, end_of}
use Rattle.tz_elf.specs.Placement.{first_sharing}
use Rattle.tz_elf.specs.declared.placed.Placed.{Placed}

-- by the first address of a range the first one past it
abbrev pub Ranges : Type 0
Ranges = BTreeMap ℕ ℕ

-- one of the ranges
abbrev pub Has : Ranges → ℕ → ℕ → Type 0
Has ranges first past = get nat_cmp ranges first ≡ Some past

-- ranges have addresses, and share none
pub record AreApart (ranges : Ranges) : Type 0 where
  pub some : (first past : ℕ) → Has ranges first past → first < past
  pub apart : (first past later end : ℕ) → Has ranges first past → Has ranges later end → first < later → past ≤ later

-- no range has an address from a first one to before another
abbrev pub AreFree : Ranges → ℕ → ℕ → Type 0
AreFree ranges first past = (from to : ℕ) → Has ranges from to → (to ≤ first) ⊎ (past ≤ from)

-- each segment takes a range
abbrev pub HasEach : Ranges → List SegmentValue → Type 0
HasEach ranges [] = Unit {0}
HasEach ranges (s ∷ more) = Has ranges s.base (end_of s) × HasEach ranges more

-- the ranges are those of segments: they have each, and what shares no byte with the segments shares no address with them
pub record AreOf (segments : List SegmentValue) (ranges : Ranges) : Type 0 where
  pub apart : AreApart ranges
  pub each : HasEach ranges segments
  pub only : (s : SegmentValue) → first_sharing 0 s segments ≡ None → AreFree ranges s.base (end_of s)

-- the ranges that are kept are those of the segments
abbrev pub Keeps : Placed → Type 0
Keeps p = AreOf p.segments.items p.ranges
