-- Words of 32 bits as bytes, and what is said of bytes.
use Rattle.std.specs.Prelude.{◌≡◌, ℕ, ◌<◌, List, [], ◌∷◌, ◌++◌, Some, slice_get, slice_index}
use Rattle.std.specs.Int.{w32, to_le_bytes}
use Rattle.tz_model.specs.Image.{SegmentValue, ImageValue}

-- the low byte of each word first
abbrev pub bytes_of_words : List ℕ → List ℕ
bytes_of_words [] = []
bytes_of_words (w ∷ ws) = to_le_bytes w32 w ++ bytes_of_words ws

-- numbers of 8 bits
abbrev pub AreBytes : List ℕ → Type 0
AreBytes bytes = (k : ℕ) → slice_index bytes k < 256

-- the segments of an image hold such numbers
abbrev pub HasBytes : ImageValue → Type 0
HasBytes image = (i : ℕ) (s : SegmentValue) → slice_get image.segments i ≡ Some s → AreBytes s.bytes
