-- The segments of an image, of which the last one still grows.
use Rattle.std.specs.Prelude.{◌≡◌, ℕ, ◌+◌, ◌≤◌, Bool, true, ◌&&◌, nat_le, if◌then◌else◌, List, [], ◌∷◌, ◌++◌, length}
use Rattle.tz_asm.specs.declared.growing.Growing.{Growing}
use Rattle.tz_asm.specs.declared.layout.Layout.{Layout}
use Rattle.tz_model.specs.Image.{SegmentValue, are_clear, bytes_in, end_of}

-- the segments that have their bytes, and the base and the bytes of one that grows
pub record GrowingValue : Type 0 where
  pub done : List SegmentValue
  pub base : ℕ
  pub bytes : List ℕ

-- segments as they are kept
abbrev pub growing_view : Growing → GrowingValue
growing_view g = record { done = g.done.items; base = g.base; bytes = g.bytes.items }

abbrev pub nothing : GrowingValue
nothing = record { done = []; base = 0; bytes = [] }

-- a segment behind others, if it has bytes
abbrev pub with_segment : List SegmentValue → ℕ → List ℕ → List SegmentValue
with_segment done base [] = done
with_segment done base (b ∷ bytes) = done ++ record { base = base; bytes = b ∷ bytes } ∷ []

-- all segments
abbrev pub finished : GrowingValue → List SegmentValue
finished g = with_segment g.done g.base g.bytes

-- bytes from a place on, in the segment that grows where the place is inside it, else in a new one
abbrev pub grown : Bool → ℕ → List ℕ → GrowingValue → GrowingValue
grown inside place [] g = g
grown inside place (b ∷ bytes) g =
    if inside
    then record { done = g.done; base = g.base; bytes = g.bytes ++ b ∷ bytes }
    else record { done = finished g; base = place; bytes = b ∷ bytes }

-- no segment reaches past a place
abbrev pub end_by : ℕ → List SegmentValue → Bool
end_by place [] = true
end_by place (s ∷ more) = nat_le (end_of s) place && end_by place more

-- the segments lie one behind the other below the place of a layout, which counts their bytes and them
pub record Fits (l : Layout) (g : GrowingValue) : Type 0 where
  pub clear : are_clear g.done ≡ true
  pub below : end_by g.base g.done ≡ true
  pub within : g.base + length g.bytes ≤ l.place
  pub joined : l.inside ≡ true → g.base + length g.bytes ≡ l.place
  pub counted : bytes_in g.done + length g.bytes ≡ l.bytes
  pub few : length (finished g) ≤ l.segments
  pub begun : l.inside ≡ true → length g.done + 1 ≤ l.segments
