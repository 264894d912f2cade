-- Bytes written into a block.
use Rattle.std.proofs.Common.{◌≡◌, ◌≢◌, ◌⊎◌, inl, inr, ℕ, zero, suc, ◌+◌, ◌-◌, ◌%◌, ◌^◌, ◌<◌, ◌≤◌, true, false, cond, List, [], ◌∷◌, length, get_or, Option, Some, None, slice_get, refl, sym, ap, ◌∙◌, subst, arith}
use Rattle.std.specs.Prelude.{map}
use Rattle.std.specs.Option.{is_some}
use Rattle.std.specs.Ordering.{nat_cmp, eq_by_cmp}
use Rattle.std.specs.Cmp.{nat_cmp_total}
use Rattle.std.specs.FinMap.{get, get-insert, same_map, nat_cmp-IsAntisymmetric}
use Rattle.std.proofs.Math.ListN.{set, length-set}
use Rattle.std.proofs.lemmas.List.{set-set, set-get_or, get_or-set_same}
use Rattle.std.proofs.Math.Seq.{map-set_same}
use Rattle.std.proofs.lemmas.Bool.Decides.{nat_tests}
use Rattle.std.proofs.lemmas.Bool.{cases_eq}
use Rattle.tz_table.specs.declared.units.Size.{Size}
use Rattle.tz_table.specs.declared.units.Size.TheVariants.{Byte, Half, Word}
use Rattle.tz_model.specs.Words.{wrap}
use Rattle.tz_state.specs.Memory.{Memory, with_byte, with_half, with_word, with_value}
use Rattle.tz_mem.specs.Values.{with_bytes}
use Rattle.tz_mem.specs.Blocks.{BlockValue, region_of, memory_of, view_of, holds, byte_in, IsPlace, is_apart, IsRun, more_of, bytes_of, over, written_over}
use Rattle.tz_mem.proofs.Places.{holds_at, slice_get_some, offset_of_place, byte_of_place, place_of_run, index_of_run}
use Rattle.tz_mem.proofs.Bytes.{tied, untied, get_memory_of}

-- ---- the regions stay

length_over : (xs : List ℕ) (j : ℕ) (bs : List ℕ) → length (over xs j bs) ≡ length xs
length_over xs j [] = refl
length_over xs j (b ∷ bs) = length_over (set xs j b) (j + 1) bs ∙ length-set xs j b

pub regions_kept : (ks : List BlockValue) (i j : ℕ) (bs : List ℕ) (k : BlockValue) → k ≡ get_or ks i k → map region_of (set ks i (written_over k j bs)) ≡ map region_of ks
regions_kept ks i j bs k is = map-set_same region_of ks i (written_over k j bs) k (rw (length_over k.bytes j bs) (ap region_of is))

-- ---- one byte

set_here : (xs : List ℕ) (i b : ℕ) → i < length xs → slice_get (set xs i b) i ≡ Some b
set_here [] i b l = absurd (omega arith)
set_here (x ∷ xs) zero b l = refl
set_here (x ∷ xs) (suc i) b l = set_here xs i b (omega arith)

set_there : (xs : List ℕ) (i k b : ℕ) → k ≢ i → slice_get (set xs i b) k ≡ slice_get xs k
set_there [] i k b ne = refl
set_there (x ∷ xs) zero zero b ne = absurd (ne refl)
set_there (x ∷ xs) zero (suc k) b ne = refl
set_there (x ∷ xs) (suc i) zero b ne = refl
set_there (x ∷ xs) (suc i) (suc k) b ne = set_there xs i k b (λ e. ne (ap suc e))

byte_set : (k : BlockValue) (q j b r : ℕ) (other : Option ℕ) → k.base + j ≡ q → j < length k.bytes
    → cond (holds (written_over k j (b ∷ [])) r) (slice_get (set k.bytes j b) (r - k.base)) other ≡ cond (eq_by_cmp nat_cmp r q) (Some b) (cond (holds k r) (slice_get k.bytes (r - k.base)) other)
byte_set k q j b r other at small =
    let len : length (set k.bytes j b) ≡ length k.bytes = length-set k.bytes j b in
    rw len (elim (cases_eq r q) [
      | inl same ↦
          let here = holds_at k r j (omega arith) small in
          rw (tied r q same, here.0, here.1) (set_here k.bytes j b small)
      | inr other_place ↦
          let ne : r - k.base ≢ j ⊎ (holds k r ≡ false) = grind (arith, nat_tests) in
          rw (untied r q other_place) (elim ne [
            | inl away ↦ ap (λ x. cond (holds k r) x other) (set_there k.bytes j (r - k.base) b away)
            | inr not ↦ rw not refl
          ])
    ])

byte_in-set : (ks : List BlockValue) (q i j b r : ℕ) (k : BlockValue) → IsPlace ks q i j → k ≡ get_or ks i k → byte_in (set ks i (written_over k j (b ∷ []))) r ≡ cond (eq_by_cmp nat_cmp r q) (Some b) (byte_in ks r)
byte_in-set [] q i j b r k h is = absurd h
byte_in-set (x ∷ ks) q zero j b r k h is = subst (λ (y : BlockValue). byte_in (written_over y j (b ∷ []) ∷ ks) r ≡ cond (eq_by_cmp nat_cmp r q) (Some b) (byte_in (x ∷ ks) r)) (sym is) (byte_set x q j b r (byte_in ks r) h.0 h.1)
byte_in-set (x ∷ ks) q (suc i) j b r k h is =
    rw (byte_in-set ks q i j b r k h.1 is) (elim (cases_eq r q) [
      | inl same ↦ let not : holds x r ≡ false = subst (λ a. holds x a ≡ false) (sym same) h.0 in rw (tied r q same, not) refl
      | inr away ↦ rw (untied r q away) refl
    ])

pub one_written : (ks : List BlockValue) (a i j b : ℕ) (k : BlockValue) → IsPlace ks a i j → k ≡ get_or ks i k → memory_of (set ks i (written_over k j (b ∷ []))) ≡ with_byte (memory_of ks) a b
unfolding with_byte
one_written ks a i j b k h is =
    let there : is_some (get (memory_of ks) a) ≡ true =
    ap (is_some {T = ℕ}) (get_memory_of ks a ∙ byte_of_place ks a i j k h is) ∙ slice_get_some k.bytes j (offset_of_place ks a i j k h is) in
    rw there (same_map nat_cmp_total nat_cmp-IsAntisymmetric _ _ (λ r.
    get_memory_of (set ks i (written_over k j (b ∷ []))) r ∙ byte_in-set ks a i j b r k h is
    ∙ ap (λ x. cond (eq_by_cmp nat_cmp r a) (Some b) x) (sym (get_memory_of ks r)) ∙ sym (get-insert nat_cmp_total (memory_of ks) a b r)))

-- an address that no block holds
pub none_written : (ks : List BlockValue) (a b : ℕ) → byte_in ks a ≡ None → memory_of ks ≡ with_byte (memory_of ks) a b
unfolding with_byte
none_written ks a b none =
    let out : is_some (get (memory_of ks) a) ≡ false = ap (is_some {T = ℕ}) (get_memory_of ks a ∙ none) in
    rw out refl

-- ---- memory after a byte

pub place_written : (ks : List BlockValue) (a i j b n : ℕ) (k k' : BlockValue) → IsPlace ks a i j → k ≡ get_or ks i k → n ≡ b → b < 2 ^ 8 → k' ≡ written_over (get_or ks i k) j (n % 2 ^ 8 ∷ [])
    → view_of (set ks i k') ≡ with_bytes (view_of ks) (with_byte (memory_of ks) a b)
place_written ks a i j b n k k' h is e l to =
    let byte : n % 2 ^ 8 ≡ b = omega arith in
    let same : k' ≡ written_over k j (b ∷ []) = rw byte at to ∙ ap (λ x. written_over x j (b ∷ [])) (sym is) in
    rw (same, regions_kept ks i j (b ∷ []) k is, one_written ks a i j b k h is) refl

-- ---- all bytes of a run

-- bytes put one after the other
abbrev puts : Memory → ℕ → List ℕ → Memory
puts m a [] = m
puts m a (b ∷ bs) = puts (with_byte m a b) (a + 1) bs

apart_from_next : (k : BlockValue) (a last : ℕ) → is_apart k a last ≡ true → is_apart k (a + 1) last ≡ true
apart_from_next k a last is = grind (arith, nat_tests)

run_next : (ks : List BlockValue) (a last i j b : ℕ) (k : BlockValue) → IsRun ks a last i j → a < last → k ≡ get_or ks i k → IsRun (set ks i (written_over k j (b ∷ []))) (a + 1) last i (j + 1)
run_next [] a last i j b k h l is = absurd h
run_next (x ∷ ks) a last zero j b k h l is =
    let base : k.base ≡ x.base = ap (λ (y : BlockValue). y.base) is in
    let len : length k.bytes ≡ length x.bytes = ap (λ (y : BlockValue). length y.bytes) is in
    (omega (arith, h.0), omega (arith, h.1, length-set k.bytes j b))
run_next (x ∷ ks) a last (suc i) j b k h l is = (apart_from_next x a last h.0, run_next ks a last i j b k h.1 l is)

run_put : (bs : List ℕ) (ks : List BlockValue) (a last i j : ℕ) (k : BlockValue) → IsRun ks a last i j → k ≡ get_or ks i k → a + length bs ≤ last + 1 → memory_of (set ks i (written_over k j bs)) ≡ puts (memory_of ks) a bs
run_put [] ks a last i j k h is l = ap (λ x. memory_of (set ks i x)) is ∙ ap memory_of (set-get_or ks i k)
run_put (b ∷ []) ks a last i j k h is l =
    let place = place_of_run ks a last i j 0 h (omega arith) in
    let at : a + 0 ≡ a = omega arith in
    let off : j + 0 ≡ j = omega arith in
    one_written ks a i j b k (subst (λ o. IsPlace ks a i o) off (subst (λ q. IsPlace ks q i (j + 0)) at place)) is
run_put (b ∷ c ∷ bs) ks a last i j k h is l =
    let place = place_of_run ks a last i j 0 h (omega arith) in
    let at : a + 0 ≡ a = omega arith in
    let off : j + 0 ≡ j = omega arith in
    let one = one_written ks a i j b k (subst (λ o. IsPlace ks a i o) off (subst (λ q. IsPlace ks q i (j + 0)) at place)) is in
    let next = run_next ks a last i j b k h (omega arith) is in
    let k1 = written_over k j (b ∷ []) in
    let here : k1 ≡ get_or (set ks i k1) i k1 = sym (get_or-set_same ks i k1 k1 (index_of_run ks a last i j h)) in
    let more = run_put (c ∷ bs) (set ks i k1) (a + 1) last i (j + 1) k1 next here (omega arith) in
    ap memory_of (sym (set-set ks i k1 (written_over k j (b ∷ c ∷ bs)))) ∙ more ∙ ap (λ m. puts m (a + 1) (c ∷ bs)) one

puts_value : (m : Memory) (size : Size) (a n : ℕ) → a + more_of size < 2 ^ 32 → puts m a (bytes_of size n) ≡ with_value m size a n
unfolding with_half with_word
puts_value m Byte a n l = refl
puts_value m Half a n l =
    let one : wrap (a + 1) ≡ a + 1 = omega arith in
    rw one refl
puts_value m Word a n l =
    let one : wrap (a + 1) ≡ a + 1 = omega arith in
    let two : wrap (a + 2) ≡ a + 1 + 1 = omega arith in
    let three : wrap (a + 3) ≡ a + 1 + 1 + 1 = omega arith in
    rw (one, two, three) refl

bytes_of-length : (size : Size) (n : ℕ) → length (bytes_of size n) ≡ more_of size + 1
bytes_of-length Byte n = refl
bytes_of-length Half n = refl
bytes_of-length Word n = refl

pub run_written : (ks : List BlockValue) (a i j n : ℕ) (size : Size) (k k' : BlockValue) → a + more_of size < 2 ^ 32 → IsRun ks a (a + more_of size) i j → k ≡ get_or ks i k → k' ≡ written_over (get_or ks i k) j (bytes_of size n)
    → view_of (set ks i k') ≡ with_bytes (view_of ks) (with_value (memory_of ks) size a n)
run_written ks a i j n size k k' l h is to =
    let same : k' ≡ written_over k j (bytes_of size n) = to ∙ ap (λ x. written_over x j (bytes_of size n)) (sym is) in
    let put = run_put (bytes_of size n) ks a (a + more_of size) i j k h is (omega (arith, bytes_of-length size n)) in
    rw (same, regions_kept ks i j (bytes_of size n) k is, put, puts_value (memory_of ks) size a n l) refl
