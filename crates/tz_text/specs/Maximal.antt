-- What makes runs the maximal ones.
use Rattle.std.specs.Prelude.{◌≡◌, ◌↔◌, ◌<◌, ◌≤◌, ℕ, ◌+◌, ◌-◌, List, [], ◌∷◌, length, Some, slice_get, Contains}
use Rattle.tz_model.specs.Image.{SegmentValue, IsImage, end_of}
use Rattle.tz_text.specs.Runs.{runs_of}

-- an address has a byte in one of the segments
pub record HasByte (segments : List SegmentValue) (address byte : ℕ) : Type 0 where
  pub segment : SegmentValue
  pub among : Contains segments segment
  pub from : segment.base ≤ address
  pub at : slice_get segment.bytes (address - segment.base) ≡ Some byte

-- each run has bytes, begins at or above an address, and leaves one address free behind its end
abbrev pub AreApartFrom : ℕ → List SegmentValue → Type 0
AreApartFrom low [] = Unit {0}
AreApartFrom low (run ∷ more) = (low ≤ run.base) × (0 < length run.bytes) × AreApartFrom (end_of run + 1) more

-- The runs of an image are apart and ascend, and have the bytes of its segments at their addresses. So no run
-- goes on past its ends.
abbrev pub RunsAreMaximal : Type 0
RunsAreMaximal =
    (segments : List SegmentValue) → IsImage segments
    → AreApartFrom 0 (runs_of segments) × ((address byte : ℕ) → HasByte (runs_of segments) address byte ↔ HasByte segments address byte)
