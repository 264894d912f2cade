-- Plain images as they are written, line by line.
use Rattle.std.proofs.Common.{◌≡◌, ◌∙◌, ◌<◌, ◌≤◌, ◌+◌, ◌-◌, ◌/◌, ◌%◌, ℕ, true, zero, suc, refl, sym, ap, arith, List, [], ◌∷◌, ◌++◌, append_assoc, length, length-drop, take, drop, slice_index, inl, inr, add-one, drop-cons, get_or, subst}
use Rattle.std.specs.Prelude.{min, nat_le}
use Rattle.std.proofs.lemmas.Bool.{and_parts, cases_lt, leb-true}
use Rattle.std.proofs.lemmas.List.{append-nil}
use Rattle.tz_elf.proofs.Digits.{take_whole}
use Rattle.hex.specs.Hex.{encode_lower, encode_with, lower_digits}
use Rattle.tz_elf.specs.PlainImage.{digits_of, line_text, lines_text, plain_text, segment_text}
use Rattle.tz_model.specs.Image.{SegmentValue, are_addressed, end_of}

-- the encoder's digits are those of the definition
pub digits_of-encode_lower : (bytes : List ℕ) → encode_lower bytes ≡ digits_of bytes
unfolding digits_of encode_with
digits_of-encode_lower [] = refl
digits_of-encode_lower (b ∷ bytes) = ap (λ (rest : List ℕ). slice_index lower_digits (b / 16) ∷ slice_index lower_digits (b % 16) ∷ rest) (digits_of-encode_lower bytes)

-- a line, written part by part
pub line-written : (old address digits first second third fourth address_text digits_text : List ℕ)
    → first ≡ old ++ address_text → second ≡ first ++ 32 ∷ [] → third ≡ second ++ digits_text → fourth ≡ third ++ 10 ∷ []
    → address_text ≡ address → digits_text ≡ digits
    → fourth ≡ old ++ ((address ++ 32 ∷ digits) ++ 10 ∷ [])
line-written old address digits first second third fourth address_text digits_text a b c d e f = rw (d, c, b, a, e, f) (simp append_assoc)

drop-drop : (n m : ℕ) (xs : List ℕ) → drop n (drop m xs) ≡ drop (m + n) xs
drop-drop n zero xs =
    let none : 0 + n ≡ n = omega arith in
    rw none refl
drop-drop zero (suc m) [] =
    let all : suc m + 0 ≡ suc m = omega arith in
    rw all refl
drop-drop (suc n) (suc m) [] =
    let all : suc m + suc n ≡ suc (m + suc n) = omega arith in
    rw all refl
drop-drop n (suc m) (x ∷ xs) =
    let next : suc m + n ≡ suc (m + n) = omega arith in
    rw next (drop-drop n m xs)

-- no lines are left
pub lines_text-none : (base at size : ℕ) (bytes : List ℕ) → size ≤ at → lines_text ((size - at + 63) / 64) base bytes ≡ []
unfolding lines_text
lines_text-none base at size bytes past =
    let none : (size - at + 63) / 64 ≡ 0 = omega arith in
    rw none refl

-- a turn over the lines of a segment, which ends after 64 bytes or with the segment
pub lines_text-next : (base at stop : ℕ) (bytes : List ℕ) → at < length bytes → stop ≡ min (at + 64) (length bytes)
    → lines_text ((length bytes - at + 63) / 64) (base + at) (drop at bytes)
    ≡ (line_text (base + at) (take (stop - at) (drop at bytes)) ++ 10 ∷ []) ++ lines_text ((length bytes - stop + 63) / 64) (base + stop) (drop stop bytes)
unfolding lines_text
lines_text-next base at stop bytes some end =
    elim (cases_lt (length bytes) (at + 64)) [
      | inl last ↦
          let size = length bytes in
          let whole : stop ≡ length bytes = omega arith in
          let one : (length bytes - at + 63) / 64 ≡ suc 0 = omega arith in
          let none : (length bytes - stop + 63) / 64 ≡ 0 = omega arith in
          let first = take_whole 64 (drop at bytes) (omega (arith, length-drop at bytes)) in
          let same = take_whole (stop - at) (drop at bytes) (omega (arith, length-drop at bytes)) in
          rw (one, none, first, same) (sym (append_assoc (line_text (base + at) (drop at bytes)) (10 ∷ []) []))
      | inr full ↦
          let next : stop ≡ at + 64 = omega arith in
          let more : (length bytes - at + 63) / 64 ≡ suc ((length bytes - stop + 63) / 64) = omega arith in
          let count : stop - at ≡ 64 = omega arith in
          let place : base + stop ≡ base + at + 64 = omega arith in
          let rest : drop stop bytes ≡ drop 64 (drop at bytes) = ap (λ (n : ℕ). drop n bytes) next ∙ sym (drop-drop 64 at bytes) in
          rw (more, count, place, rest) (sym (append_assoc (line_text (base + at) (take 64 (drop at bytes))) (10 ∷ [])
          (lines_text ((length bytes - stop + 63) / 64) (base + at + 64) (drop 64 (drop at bytes)))))
    ]

-- what was to be written is written, and the rest is to be
pub written-more : (all now next piece rest after : List ℕ) → now ++ rest ≡ all → next ≡ now ++ piece → rest ≡ piece ++ after → next ++ after ≡ all
written-more all now next piece rest after done is parts = ap (λ (xs : List ℕ). xs ++ after) is ∙ append_assoc now piece after ∙ ap (λ (xs : List ℕ). now ++ xs) (sym parts) ∙ done

-- nothing is left to write
pub written-all : (all now rest : List ℕ) → now ++ rest ≡ all → rest ≡ [] → now ≡ all
written-all all now rest done none = sym (append-nil now) ∙ ap (λ (xs : List ℕ). now ++ xs) (sym none) ∙ done

-- the bytes of segments are bytes
abbrev pub HoldBytes : List SegmentValue → Type 0
HoldBytes [] = Unit {0}
HoldBytes (s ∷ more) = ((k : ℕ) → slice_index s.bytes k < 256) × HoldBytes more

pub HoldBytes-more : (segments : List SegmentValue) (i : ℕ) (s : SegmentValue) → i < length segments → s ≡ get_or segments i s → HoldBytes (take i segments)
    → ((k : ℕ) → slice_index s.bytes k < 256) → HoldBytes (take (i + 1) segments)
HoldBytes-more [] i s h is before here = absurd (omega arith)
HoldBytes-more (q ∷ more) zero s h is before here =
    let Fits : SegmentValue → Type 0 = λ x. (k : ℕ) → slice_index x.bytes k < 256 in
    (subst Fits is here, tt)
HoldBytes-more (q ∷ more) (suc i) s h is before here =
    let next : suc i + 1 ≡ suc (i + 1) = omega arith in
    rw next (before.0, HoldBytes-more more i s (omega arith) is before.1 here)

-- a segment of an image ends at or below 2^32
addressed-at : (segments : List SegmentValue) (i : ℕ) (d : SegmentValue) → are_addressed segments ≡ true → i < length segments → end_of (get_or segments i d) ≤ 4294967296
addressed-at [] i d h l = absurd (omega arith)
addressed-at (s ∷ more) zero d h l = leb-true (end_of s) 4294967296 (and_parts (nat_le (end_of s) 4294967296) (are_addressed more) h).0
addressed-at (s ∷ more) (suc i) d h l = addressed-at more i d (and_parts (nat_le (end_of s) 4294967296) (are_addressed more) h).1 (omega arith)

pub addressed-item : (segments : List SegmentValue) (i : ℕ) (s : SegmentValue) → are_addressed segments ≡ true → i < length segments → s ≡ get_or segments i s → end_of s ≤ 4294967296
addressed-item segments i s h l is =
    let Ends : SegmentValue → Type 0 = λ x. end_of x ≤ 4294967296 in
    subst Ends (sym is) (addressed-at segments i s h l)

-- a turn over the segments
pub plain_text-item : (segments : List SegmentValue) (i : ℕ) (s : SegmentValue) → i < length segments → s ≡ get_or segments i s
    → plain_text (drop i segments) ≡ segment_text s ++ plain_text (drop (i + 1) segments)
unfolding plain_text
plain_text-item segments i s h is =
    let rest = plain_text (drop (suc i) segments) in
    rw (add-one, drop-cons segments i s) (ap (λ (x : SegmentValue). segment_text x ++ rest) (sym is))

pub plain_text-none : (segments : List SegmentValue) (i : ℕ) → length segments ≤ i → plain_text (drop i segments) ≡ []
unfolding plain_text
plain_text-none [] zero h = refl
plain_text-none [] (suc i) h = refl
plain_text-none (s ∷ more) zero h = absurd (omega arith)
plain_text-none (s ∷ more) (suc i) h = plain_text-none more i (omega arith)
