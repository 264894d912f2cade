-- Plain images (own): each line gives an address and what stands from there on, in hexadecimal digits.
use Rattle.std.specs.Prelude.{ℕ, zero, suc, ◌+◌, ◌-◌, ◌*◌, ◌/◌, ◌%◌, ◌==◌, ◌&&◌, codes, nat_le, if◌then◌else◌, List, [], ◌∷◌, ◌++◌, length, take, drop, slice_index, Option, Some, None, Ok, Err}
use Rattle.std.specs.Int.{from_be_bytes, to_be_bytes, w32}
use Rattle.tz_model.specs.Board.{within}
use Rattle.tz_model.specs.Image.{SegmentValue}
use Rattle.tz_syntax.specs.Lines.{lines_of}
use Rattle.tz_elf.specs.Placement.{Hex, Segments, Test, first_sharing, unless}

-- a line without the carriage return (13) at its end
abbrev pub without_return : List ℕ → List ℕ
without_return line =
    if nat_le 1 (length line) && slice_index line (length line - 1) == 13 then take (length line - 1) line else line

-- the value of a hexadecimal digit, in either case
abbrev pub digit_of : ℕ → Option ℕ
digit_of c =
    if within 65 70 c then Some (c - 55)
    else if within 97 102 c then Some (c - 87)
    else if within 48 57 c then Some (c - 48)
    else None

-- the byte of two digits
abbrev pub byte_of : Option ℕ → Option ℕ → Option ℕ
byte_of (Some high) (Some low) = Some (high * 16 + low)
byte_of (Some high) None = None
byte_of None low = None

-- a byte before others
abbrev pub before_bytes : Option ℕ → Option (List ℕ) → Option (List ℕ)
before_bytes (Some byte) (Some bytes) = Some (byte ∷ bytes)
before_bytes (Some byte) None = None
before_bytes None bytes = None

-- the bytes of pairs of digits
unfoldable pub bytes_of : List ℕ → Option (List ℕ)
bytes_of [] = Some []
bytes_of (digit ∷ []) = None
bytes_of (high ∷ low ∷ rest) = before_bytes (byte_of (digit_of high) (digit_of low)) (bytes_of rest)

-- the segment of an address, its highest byte first, and bytes
abbrev pub segment_with : Option (List ℕ) → Option (List ℕ) → Option SegmentValue
segment_with (Some address) (Some bytes) = Some (record { base = from_be_bytes w32 address; bytes = bytes })
segment_with (Some address) None = None
segment_with None bytes = None

-- the segment of a line: after the address in 8 digits and one space (32) come the bytes, no more than 64, in two digits each
abbrev pub segment_of : List ℕ → Option SegmentValue
segment_of line =
    if within 11 137 (length line) && slice_index line 8 == 32
    then segment_with (bytes_of (take 8 line)) (bytes_of (drop 9 line))
    else None

-- a line's segment, tested, goes to what follows, behind those before it
abbrev pub segment_then : Test → ℕ → List SegmentValue → Option SegmentValue → (List SegmentValue → Segments) → Segments
segment_then test number before None follows = Err (Hex number)
segment_then test number before (Some s) follows =
    unless (test (length before) (first_sharing 0 s before) s) (follows (before ++ s ∷ []))

-- a line by its number, which is passed over if it is empty
abbrev pub line_then : Test → ℕ → List SegmentValue → List ℕ → (List SegmentValue → Segments) → Segments
line_then test number before [] follows = follows before
line_then test number before (b ∷ line) follows = segment_then test number before (segment_of (b ∷ line)) follows

-- the segments of lines behind those of the lines before, or the first refusal
unfoldable pub segments_from : Test → ℕ → List SegmentValue → List (List ℕ) → Segments
segments_from test number before [] = Ok before
segments_from test number before (line ∷ lines) =
    line_then test number before (without_return line) (λ after. segments_from test (number + 1) after lines)

-- the segments of a plain image
abbrev pub plain_segments : Test → List ℕ → Segments
plain_segments test file = segments_from test 1 [] (lines_of file)

-- ---- how an image is written

-- bytes in lower-case hexadecimal digits
unfoldable pub digits_of : List ℕ → List ℕ
digits_of [] = []
digits_of (b ∷ bytes) = slice_index (codes "0123456789abcdef") (b / 16) ∷ slice_index (codes "0123456789abcdef") (b % 16) ∷ digits_of bytes

-- a line of bytes from an address on, without its line feed
abbrev pub line_text : ℕ → List ℕ → List ℕ
line_text base bytes = digits_of (to_be_bytes w32 base) ++ 32 ∷ digits_of bytes

-- so many lines of bytes from an address on, of 64 bytes each but the last
unfoldable pub lines_text : ℕ → ℕ → List ℕ → List ℕ
lines_text zero base bytes = []
lines_text (suc n) base bytes = line_text base (take 64 bytes) ++ 10 ∷ lines_text n (base + 64) (drop 64 bytes)

-- the lines of a segment
abbrev pub segment_text : SegmentValue → List ℕ
segment_text s = lines_text ((length s.bytes + 63) / 64) s.base s.bytes

-- the plain image of segments
unfoldable pub plain_text : List SegmentValue → List ℕ
plain_text [] = []
plain_text (s ∷ more) = segment_text s ++ plain_text more
