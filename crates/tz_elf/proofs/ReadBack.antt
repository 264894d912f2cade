-- A plain image that was written reads back as the addresses and bytes of its segments.
use Rattle.std.proofs.Common.{◌≡◌, ◌∙◌, ◌<◌, ◌≤◌, ◌+◌, ◌-◌, ◌*◌, ◌/◌, ◌%◌, ◌==◌, ℕ, Bool, true, false, not, ◌&&◌, zero, suc, refl, sym, ap, arith, List, [], ◌∷◌, ◌++◌, append_assoc, length, length-drop, length-take, take, drop, slice_index, Option, Some, Ok, inl, inr}
use Rattle.std.specs.Prelude.{codes, nat_le}
use Rattle.std.specs.Int.{to_be_bytes, w32}
use Rattle.std.proofs.lemmas.Bool.{agree_below_at, and_from, and_parts, and_right, cases_lt, leb-true, not-true}
use Rattle.std.proofs.lemmas.List.{append-nil, get_or_past}
use Rattle.std.proofs.lemmas.Nat.{from_be_bytes-to_be_bytes_4}
use Rattle.hex.specs.Hex.{IsBytes, decode_of, lower_digits}
use Rattle.hex.proofs.HexLemmas.{decode_of-encode_lower, length-encode_with}
use Rattle.tz_model.specs.Image.{SegmentValue, are_addressed, end_of}
use Rattle.tz_model.specs.Image.{entries_from}
use Rattle.tz_elf.specs.Placement.{Segments, no_test}
use Rattle.tz_syntax.specs.Lines.{lines_of, onto_first_line}
use Rattle.tz_elf.specs.PlainImage.{bytes_of, digits_of, line_text, line_then, lines_text, plain_text, segment_of, segment_text, segment_with, segments_from, without_return}
use Rattle.tz_elf.specs.PlainImage.{plain_segments}
use Rattle.tz_elf.specs.Images.{pairs_in, pairs_of, pairs_with}
use Rattle.tz_elf.proofs.Digits.{bytes_of-decode, decoded, segment_of-parts}
use Rattle.tz_elf.proofs.Lines.{segments_from-first}
use Rattle.tz_elf.proofs.Written.{HoldBytes, digits_of-encode_lower}

-- ---- characters that a text lacks

abbrev digit : ℕ → ℕ
digit n = slice_index (codes "0123456789abcdef") n

-- no digit is a character
abbrev NoDigit : ℕ → Type 0
NoDigit c = (n : ℕ) → (digit n == c) ≡ false

no_digit : (c : ℕ) → ((n : ℕ) → n < 16 → (digit n == c) ≡ false) → (0 == c) ≡ false → NoDigit c
no_digit c below past n =
    elim (cases_lt n 16) [
      | inl small ↦ below n small
      | inr large ↦
          let none : digit n ≡ 0 = get_or_past (codes "0123456789abcdef") n 0 large in
          rw none past
    ]

no_feed : NoDigit 10
no_feed = no_digit 10 (λ n small. agree_below_at (λ d. digit d == 10) (λ d. false) 16 n refl small) refl

no_return : NoDigit 13
no_return = no_digit 13 (λ n small. agree_below_at (λ d. digit d == 13) (λ d. false) 16 n refl small) refl

no_magic : NoDigit 127
no_magic = no_digit 127 (λ n small. agree_below_at (λ d. digit d == 127) (λ d. false) 16 n refl small) refl

-- a text lacks a character
abbrev lacks : ℕ → List ℕ → Bool
lacks c [] = true
lacks c (x ∷ text) = not (x == c) && lacks c text

lacks-append : (c : ℕ) (a b : List ℕ) → lacks c a ≡ true → lacks c b ≡ true → lacks c (a ++ b) ≡ true
lacks-append c [] b first second = second
lacks-append c (x ∷ a) b first second =
    let parts = and_parts (not (x == c)) (lacks c a) first in
    and_from (not (x == c)) (lacks c (a ++ b)) parts.0 (lacks-append c a b parts.1 second)

lacks-digits_of : (c : ℕ) (bytes : List ℕ) → NoDigit c → lacks c (digits_of bytes) ≡ true
unfolding digits_of
lacks-digits_of c [] none = refl
lacks-digits_of c (b ∷ bytes) none = rw (none (b / 16), none (b % 16)) (lacks-digits_of c bytes none)

lacks-line_text : (c base : ℕ) (bytes : List ℕ) → NoDigit c → (32 == c) ≡ false → lacks c (line_text base bytes) ≡ true
lacks-line_text c base bytes none space =
    lacks-append c (digits_of (to_be_bytes w32 base)) (32 ∷ digits_of bytes) (lacks-digits_of c (to_be_bytes w32 base) none)
    (rw space (lacks-digits_of c bytes none))

lacks-at : (c : ℕ) (text : List ℕ) (i : ℕ) → lacks c text ≡ true → (0 == c) ≡ false → (slice_index text i == c) ≡ false
lacks-at c [] i lack zero_is = zero_is
lacks-at c (x ∷ text) zero lack zero_is = not-true (x == c) (and_parts (not (x == c)) (lacks c text) lack).0
lacks-at c (x ∷ text) (suc i) lack zero_is = lacks-at c text i (and_parts (not (x == c)) (lacks c text) lack).1 zero_is

-- ---- one line

lines_of-line : (line rest : List ℕ) → lacks 10 line ≡ true → lines_of (line ++ 10 ∷ rest) ≡ line ∷ lines_of rest
unfolding lines_of
lines_of-line [] rest lack = refl
lines_of-line (x ∷ line) rest lack =
    let parts = and_parts (not (x == 10)) (lacks 10 line) lack in
    let other = not-true (x == 10) parts.0 in
    rw other (ap (onto_first_line x) (lines_of-line line rest parts.1))

without_return-line : (line : List ℕ) → lacks 13 line ≡ true → without_return line ≡ line
without_return-line line lack =
    let none = and_right (nat_le 1 (length line)) (slice_index line (length line - 1) == 13) (lacks-at 13 line (length line - 1) lack refl) in
    rw none refl

bytes_of-digits_of : (bytes : List ℕ) → IsBytes bytes → bytes_of (digits_of bytes) ≡ Some bytes
bytes_of-digits_of bytes fits =
    bytes_of-decode (digits_of bytes) ∙ ap (λ (text : List ℕ). decoded (decode_of text)) (sym (digits_of-encode_lower bytes)) ∙ ap decoded (decode_of-encode_lower bytes fits)

address_bytes : (base : ℕ) → IsBytes (to_be_bytes w32 base)
address_bytes base zero = omega arith
address_bytes base (suc zero) = omega arith
address_bytes base (suc (suc zero)) = omega arith
address_bytes base (suc (suc (suc zero))) = omega arith
address_bytes base (suc (suc (suc (suc i)))) = omega arith

length-digits_of : (bytes : List ℕ) → length (digits_of bytes) ≡ 2 * length bytes
length-digits_of bytes = ap length (sym (digits_of-encode_lower bytes)) ∙ length-encode_with lower_digits bytes

length-line_text : (base : ℕ) (bytes : List ℕ) → length (line_text base bytes) ≡ 9 + 2 * length bytes
unfolding digits_of
length-line_text base bytes =
    let size = length-digits_of bytes in
    omega (arith, size)

abbrev segment_at : List ℕ → ℕ → Option SegmentValue
segment_at bytes base = Some (record { base = base; bytes = bytes })

segment_of-line_text : (base : ℕ) (bytes : List ℕ) → base < 4294967296 → 1 ≤ length bytes → length bytes ≤ 64 → IsBytes bytes
    → segment_of (line_text base bytes) ≡ Some (record { base = base; bytes = bytes })
unfolding digits_of
segment_of-line_text base bytes fits some few are =
    let size = length-line_text base bytes in
    let line = line_text base bytes in
    let parts = segment_of-parts (line_text base bytes) (omega (arith, size)) (omega (arith, size)) refl in
    let address : bytes_of (take 8 line) ≡ Some (to_be_bytes w32 base) = bytes_of-digits_of (to_be_bytes w32 base) (address_bytes base) in
    let rest : bytes_of (drop 9 line) ≡ Some bytes = bytes_of-digits_of bytes are in
    parts ∙ ap (λ (a : Option (List ℕ)). segment_with a (bytes_of (drop 9 line))) address
    ∙ ap (λ (r : Option (List ℕ)). segment_with (Some (to_be_bytes w32 base)) r) rest
    ∙ ap (segment_at bytes) (from_be_bytes-to_be_bytes_4 base fits)

line_then-some : (number : ℕ) (before : List SegmentValue) (line : List ℕ) (s : SegmentValue) (follows : List SegmentValue → Segments) → 0 < length line → segment_of line ≡ Some s
    → line_then no_test number before line follows ≡ follows (before ++ s ∷ [])
line_then-some number before [] s follows some is = absurd (omega arith)
line_then-some number before (b ∷ line) s follows some is = rw is refl

-- a line, read
segments_from-line : (number : ℕ) (before : List SegmentValue) (base : ℕ) (bytes rest : List ℕ) → base < 4294967296 → 1 ≤ length bytes → length bytes ≤ 64 → IsBytes bytes
    → segments_from no_test number before (lines_of (line_text base bytes ++ 10 ∷ rest))
    ≡ segments_from no_test (number + 1) (before ++ record { base = base; bytes = bytes } ∷ []) (lines_of rest)
segments_from-line number before base bytes rest fits some few are =
    let line = line_text base bytes in
    let size = length-line_text base bytes in
    segments_from-first no_test number before (line ++ 10 ∷ rest) line rest line
    (lines_of-line line rest (lacks-line_text 10 base bytes no_feed refl)) (without_return-line line (lacks-line_text 13 base bytes no_return refl))
    ∙ line_then-some number before line (record { base = base; bytes = bytes }) (λ next. segments_from no_test (number + 1) next (lines_of rest)) (omega (arith, size))
    (segment_of-line_text base bytes fits some few are)

-- ---- the pairs of segments

abbrev Pairs : Type 0
Pairs = List (ℕ × ℕ)

entries-split : (k base : ℕ) (bytes : List ℕ) → entries_from base bytes ≡ entries_from base (take k bytes) ++ entries_from (base + k) (drop k bytes)
entries-split zero base bytes =
    let same : base + 0 ≡ base = omega arith in
    rw same refl
entries-split (suc k) base [] = refl
entries-split (suc k) base (b ∷ bytes) =
    let same : base + suc k ≡ base + 1 + k = omega arith in
    rw same (ap (λ (rest : Pairs). (base, b) ∷ rest) (entries-split k (base + 1) bytes))

pairs_in-append : (a b : List SegmentValue) → pairs_in (a ++ b) ≡ pairs_in a ++ pairs_in b
pairs_in-append [] b = refl
pairs_in-append (s ∷ a) b =
    ap (λ (rest : Pairs). entries_from s.base s.bytes ++ rest) (pairs_in-append a b) ∙ sym (append_assoc (entries_from s.base s.bytes) (pairs_in a) (pairs_in b))

pub pairs_in-push : (before : List SegmentValue) (s : SegmentValue) → pairs_in (before ++ s ∷ []) ≡ pairs_in before ++ entries_from s.base s.bytes
pairs_in-push before s = pairs_in-append before (s ∷ []) ∙ ap (λ (rest : Pairs). pairs_in before ++ rest) (append-nil (entries_from s.base s.bytes))

-- a text was read: the reading goes on behind it, with these pairs more
record Reads (number : ℕ) (before : List SegmentValue) (text rest : List ℕ) (pairs : List (ℕ × ℕ)) : Type 0 where
  next : ℕ
  after : List SegmentValue
  goes_on : segments_from no_test number before (lines_of (text ++ rest)) ≡ segments_from no_test next after (lines_of rest)
  more : pairs_in after ≡ pairs_in before ++ pairs

IsBytes-take : (n : ℕ) (bytes : List ℕ) → IsBytes bytes → IsBytes (take n bytes)
IsBytes-take zero bytes are i = omega arith
IsBytes-take (suc n) [] are i = omega arith
IsBytes-take (suc n) (b ∷ bytes) are zero = are 0
IsBytes-take (suc n) (b ∷ bytes) are (suc i) = IsBytes-take n bytes (λ k. are (suc k)) i

IsBytes-drop : (n : ℕ) (bytes : List ℕ) → IsBytes bytes → IsBytes (drop n bytes)
IsBytes-drop zero bytes are i = are i
IsBytes-drop (suc n) [] are i = omega arith
IsBytes-drop (suc n) (b ∷ bytes) are i = IsBytes-drop n bytes (λ k. are (suc k)) i

read_lines : (n base : ℕ) (bytes rest : List ℕ) (number : ℕ) (before : List SegmentValue) → length bytes ≤ 64 * n → 64 * n < length bytes + 64
    → (0 < length bytes → base + length bytes ≤ 4294967296) → IsBytes bytes → Reads number before (lines_text n base bytes) rest (entries_from base bytes)
unfolding lines_text
read_lines zero base [] rest number before least most ends are = record { next = number; after = before; goes_on = refl; more = sym (append-nil (pairs_in before)) }
read_lines zero base (b ∷ bytes) rest number before least most ends are = absurd (omega arith)
read_lines (suc n) base bytes rest number before least most ends are =
    let line : SegmentValue = record { base = base; bytes = take 64 bytes } in
    let some : 0 < length bytes = omega arith in
    let end = ends some in
    let left = length-drop 64 bytes in
    let behind = read_lines n (base + 64) (drop 64 bytes) rest (number + 1) (before ++ line ∷ []) (omega (arith, left)) (omega (arith, left)) (λ h. omega (arith, left, end, h)) (IsBytes-drop 64 bytes are) in
    let size : length (take 64 bytes) ≤ 64 = simp length-take (omega arith) in
    let least_one : 1 ≤ length (take 64 bytes) = simp length-take (omega arith) in
    record {
      next = behind.next;
      after = behind.after;
      goes_on = ap (λ (text : List ℕ). segments_from no_test number before (lines_of text)) (append_assoc (line_text base (take 64 bytes)) (10 ∷ lines_text n (base + 64) (drop 64 bytes)) rest)
          ∙ segments_from-line number before base (take 64 bytes) (lines_text n (base + 64) (drop 64 bytes) ++ rest) (omega (arith, end)) least_one size (IsBytes-take 64 bytes are)
          ∙ behind.goes_on;
      more = behind.more ∙ ap (λ (p : Pairs). p ++ entries_from (base + 64) (drop 64 bytes)) (pairs_in-push before line)
          ∙ append_assoc (pairs_in before) (entries_from base (take 64 bytes)) (entries_from (base + 64) (drop 64 bytes))
          ∙ ap (λ (p : Pairs). pairs_in before ++ p) (sym (entries-split 64 base bytes));
    }

read_segment : (s : SegmentValue) (rest : List ℕ) (number : ℕ) (before : List SegmentValue) → end_of s ≤ 4294967296 → IsBytes s.bytes
    → Reads number before (segment_text s) rest (entries_from s.base s.bytes)
read_segment s rest number before end are =
    read_lines ((length s.bytes + 63) / 64) s.base s.bytes rest number before (omega arith) (omega arith) (λ h. omega (arith, end)) are

read_plain_text : (segments : List SegmentValue) (number : ℕ) (before : List SegmentValue) → are_addressed segments ≡ true → HoldBytes segments
    → Reads number before (plain_text segments) [] (pairs_in segments)
unfolding plain_text
read_plain_text [] number before ends are = record { next = number; after = before; goes_on = refl; more = sym (append-nil (pairs_in before)) }
read_plain_text (s ∷ segments) number before ends are =
    let parts = and_parts (nat_le (end_of s) 4294967296) (are_addressed segments) ends in
    let first = read_segment s (plain_text segments ++ []) number before (leb-true (end_of s) 4294967296 parts.0) are.0 in
    let behind = read_plain_text segments first.next first.after parts.1 are.1 in
    record {
      next = behind.next;
      after = behind.after;
      goes_on = ap (λ (text : List ℕ). segments_from no_test number before (lines_of text)) (append_assoc (segment_text s) (plain_text segments) []) ∙ first.goes_on ∙ behind.goes_on;
      more = behind.more ∙ ap (λ (p : Pairs). p ++ pairs_in segments) first.more ∙ append_assoc (pairs_in before) (entries_from s.base s.bytes) (pairs_in segments);
    }

-- ---- the whole

lacks-lines_text : (c n base : ℕ) (bytes : List ℕ) → NoDigit c → (32 == c) ≡ false → (10 == c) ≡ false → lacks c (lines_text n base bytes) ≡ true
unfolding lines_text
lacks-lines_text c zero base bytes none space feed = refl
lacks-lines_text c (suc n) base bytes none space feed =
    lacks-append c (line_text base (take 64 bytes)) (10 ∷ lines_text n (base + 64) (drop 64 bytes)) (lacks-line_text c base (take 64 bytes) none space)
    (rw feed (lacks-lines_text c n (base + 64) (drop 64 bytes) none space feed))

lacks-plain_text : (segments : List SegmentValue) → lacks 127 (plain_text segments) ≡ true
unfolding plain_text
lacks-plain_text [] = refl
lacks-plain_text (s ∷ segments) =
    lacks-append 127 (segment_text s) (plain_text segments) (lacks-lines_text 127 ((length s.bytes + 63) / 64) s.base s.bytes no_magic refl refl) (lacks-plain_text segments)

segments_from-end : (number : ℕ) (before : List SegmentValue) → segments_from no_test number before (lines_of []) ≡ Ok before
unfolding segments_from lines_of
segments_from-end number before = refl

-- the plain image of segments has their addresses and bytes
pub pairs_of-plain_text : (segments : List SegmentValue) → are_addressed segments ≡ true → HoldBytes segments → pairs_of (plain_text segments) ≡ Ok (pairs_in segments)
unfolding pairs_of
pairs_of-plain_text segments ends are =
    let text = plain_text segments in
    let plain = lacks-at 127 (plain_text segments) 0 (lacks-plain_text segments) refl in
    let read = read_plain_text segments 1 [] ends are in
    let all : plain_segments no_test text ≡ Ok read.after =
    ap (λ (t : List ℕ). segments_from no_test 1 [] (lines_of t)) (sym (append-nil text)) ∙ read.goes_on ∙ segments_from-end read.next read.after in
    rw plain (ap pairs_with all ∙ ap Ok read.more)
