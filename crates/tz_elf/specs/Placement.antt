-- Where the segments of an image may stand on a board, and why a file is refused.
use Rattle.std.specs.Prelude.{ℕ, zero, suc, ◌+◌, Bool, true, false, not, ◌&&◌, ◌||◌, if◌then◌else◌, List, [], ◌∷◌, length, filter, Option, Some, None, Result, Ok, Err}
use Rattle.tz_table.specs.declared.units.Side.{Side}
use Rattle.tz_table.specs.declared.units.Side.TheVariants as sides
use Rattle.tz_model.specs.declared.board.Region.{Region}
use Rattle.tz_model.specs.Board.{in_region, is_nonsecure}
use Rattle.tz_model.specs.Board.{BoardValue}
use Rattle.tz_model.specs.Image.{ImageValue, SegmentValue, is_clear_of}

-- why a file is no image for a side of a board; a number is that of the segment, or of the line
pub data Refusal : Type 0 where
  Magic : Refusal
  ClassOrOrder : Refusal
  TypeOrMachine : Refusal
  HeaderCut : Refusal
  SegmentCut : (index : ℕ) → Refusal
  Outside : (index : ℕ) → Refusal
  WrongSide : (index : ℕ) → Refusal
  Overlap : (earlier index : ℕ) → Refusal
  Hex : (line : ℕ) → Refusal

-- the segments of a file, or the first refusal
abbrev pub Segments : Type 0
Segments = Result (List SegmentValue) Refusal

-- refused for a cause, or else what follows
abbrev pub unless : {T : Type 0} → Option Refusal → Result T Refusal → Result T Refusal
unless (Some cause) follows = Err cause
unless None follows = follows

-- one of the regions holds an address
abbrev pub in_some : List Region → ℕ → Bool
in_some [] address = false
in_some (r ∷ regions) address = in_region r address || in_some regions address

-- each of a number of bytes, from an address on, lies in one of the regions; an address past the last one lies in none
unfoldable pub lies_in : List Region → ℕ → ℕ → Bool
lies_in regions address zero = true
lies_in regions address (suc bytes) = in_some regions address && lies_in regions (address + 1) bytes

-- (own) an image of a side uses regions of a side: a Secure one those that are callable from Non-secure code too
abbrev pub serves : Side → Region → Bool
serves sides.Secure r = not (is_nonsecure r.side)
serves sides.NonSecure r = is_nonsecure r.side

abbrev pub regions_for : Side → List Region → List Region
regions_for side regions = filter (serves side) regions

-- the place of the first segment that shares a byte with a segment; both have bytes
abbrev pub first_sharing : ℕ → SegmentValue → List SegmentValue → Option ℕ
first_sharing place s [] = None
first_sharing place s (q ∷ more) = if is_clear_of q s then first_sharing (place + 1) s more else Some place

-- the refusal of a segment that shares a byte with an earlier one
abbrev pub overlap_with : ℕ → Option ℕ → Option Refusal
overlap_with index None = None
overlap_with index (Some earlier) = Some (Overlap earlier index)

-- what a segment with its number is tested for; the first segment before it that shares a byte is known
abbrev pub Test : Type 0
Test = ℕ → Option ℕ → SegmentValue → Option Refusal

-- (own) why a segment can't stand in an image that may use some of all regions, in this order
abbrev pub placed_in : (all usable : List Region) → Test
placed_in all usable index earlier s =
    if not (lies_in all s.base (length s.bytes)) then Some (Outside index)
    else if not (lies_in usable s.base (length s.bytes)) then Some (WrongSide index)
    else overlap_with index earlier

-- why a segment can't stand on a board in an image of a side
abbrev pub place_test : BoardValue → Side → Test
place_test board side = placed_in board.regions (regions_for side board.regions)

-- no test
abbrev pub no_test : Test
no_test index earlier s = None

-- the image of segments
abbrev pub image_with : Segments → Result ImageValue Refusal
image_with (Ok segments) = Ok (record { segments = segments })
image_with (Err cause) = Err cause
