-- ELF images as they are written, part by part.
use Rattle.std.proofs.Common.{◌≡◌, ◌∙◌, ◌<◌, ◌≤◌, ◌+◌, ℕ, zero, suc, refl, sym, ap, arith, List, [], ◌∷◌, ◌++◌, append_assoc, length, drop, get_or, add-one, drop-cons}
use Rattle.std.specs.Int.{to_le_bytes, w32}
use Rattle.std.proofs.lemmas.List.{append-nil}
use Rattle.tz_model.specs.Image.{SegmentValue}
use Rattle.tz_elf.specs.ElfImage.{all_bytes, entries_bytes, entry_bytes}
use Rattle.tz_elf.proofs.Counting.{lengths}

-- one part behind another
pub appended : (start front part next whole : List ℕ) → next ≡ whole ++ part → whole ≡ start ++ front → next ≡ start ++ (front ++ part)
appended start front part next whole is before = is ∙ ap (λ (xs : List ℕ). xs ++ part) before ∙ append_assoc start front part

-- a turn over the program headers
pub entries_bytes-item : (segments : List SegmentValue) (i offset base size : ℕ) (s : SegmentValue) → i < length segments → s ≡ get_or segments i s → base ≡ s.base → size ≡ length s.bytes
    → entries_bytes offset (drop i segments) ≡ entry_bytes offset base size ++ entries_bytes (offset + size) (drop (i + 1) segments)
unfolding entries_bytes
entries_bytes-item segments i offset base size s h is b z =
    let rest = drop (suc i) segments in
    rw (add-one, drop-cons segments i s, b, z) (ap (λ (x : SegmentValue). entry_bytes offset x.base (length x.bytes) ++ entries_bytes (offset + length x.bytes) rest) (sym is))

pub entries_bytes-none : (segments : List SegmentValue) (i offset : ℕ) → length segments ≤ i → entries_bytes offset (drop i segments) ≡ []
unfolding entries_bytes
entries_bytes-none [] zero offset h = refl
entries_bytes-none [] (suc i) offset h = refl
entries_bytes-none (s ∷ more) zero offset h = absurd (omega arith)
entries_bytes-none (s ∷ more) (suc i) offset h = entries_bytes-none more i offset (omega arith)

-- a turn over the bytes
pub all_bytes-item : (segments : List SegmentValue) (i : ℕ) (s : SegmentValue) (bytes : List ℕ) → i < length segments → s ≡ get_or segments i s → bytes ≡ s.bytes
    → all_bytes (drop i segments) ≡ bytes ++ all_bytes (drop (i + 1) segments)
unfolding all_bytes
all_bytes-item segments i s bytes h is b =
    let rest = drop (suc i) segments in
    rw (add-one, drop-cons segments i s, b) (ap (λ (x : SegmentValue). x.bytes ++ all_bytes rest) (sym is))

pub all_bytes-none : (segments : List SegmentValue) (i : ℕ) → length segments ≤ i → all_bytes (drop i segments) ≡ []
unfolding all_bytes
all_bytes-none [] zero h = refl
all_bytes-none [] (suc i) h = refl
all_bytes-none (s ∷ more) zero h = absurd (omega arith)
all_bytes-none (s ∷ more) (suc i) h = all_bytes-none more i (omega arith)

-- the bytes of the segments from a place on
pub lengths-item : (segments : List SegmentValue) (i : ℕ) (s : SegmentValue) → i < length segments → s ≡ get_or segments i s
    → lengths (drop i segments) ≡ length s.bytes + lengths (drop (i + 1) segments)
lengths-item segments i s h is =
    let rest = drop (suc i) segments in
    rw (add-one, drop-cons segments i s) (ap (λ (x : SegmentValue). length x.bytes + lengths rest) (sym is))

-- numbers of 4 bytes each, the low byte first
unfoldable pub words_bytes : List ℕ → List ℕ
words_bytes [] = []
words_bytes (word ∷ more) = to_le_bytes w32 word ++ words_bytes more

-- a turn over the numbers
pub words_bytes-item : (words : List ℕ) (i : ℕ) → i < length words
    → words_bytes (drop i words) ≡ to_le_bytes w32 (get_or words i 0) ++ words_bytes (drop (i + 1) words)
unfolding words_bytes
words_bytes-item words i h = rw (add-one, drop-cons words i 0) refl

pub words_bytes-none : (words : List ℕ) (i : ℕ) → length words ≤ i → words_bytes (drop i words) ≡ []
unfolding words_bytes
words_bytes-none [] zero h = refl
words_bytes-none [] (suc i) h = refl
words_bytes-none (word ∷ more) zero h = absurd (omega arith)
words_bytes-none (word ∷ more) (suc i) h = words_bytes-none more i (omega arith)

-- a program header is eight numbers
pub words_bytes-entry : (offset base size : ℕ) → words_bytes (1 ∷ offset ∷ base ∷ base ∷ size ∷ size ∷ 7 ∷ 1 ∷ []) ≡ entry_bytes offset base size
unfolding words_bytes
words_bytes-entry offset base size = simp append-nil
