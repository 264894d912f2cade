-- Numbers read from a block.
use Rattle.std.proofs.Common.{◌≡◌, ℕ, zero, suc, ◌+◌, ◌-◌, ◌^◌, ◌<◌, ◌≤◌, Bool, true, false, List, [], ◌∷◌, get_or, Option, Some, slice_get, refl, sym, ap, ◌∙◌, arith}
use Rattle.std.specs.Prelude.{◌&&◌, map, unwrap_or, slice_index}
use Rattle.tz_table.specs.declared.units.Size.{Size}
use Rattle.tz_table.specs.declared.units.Size.TheVariants.{Byte, Half, Word}
use Rattle.tz_model.specs.Words.{wrap}
use Rattle.tz_state.specs.Access.{is_mapped, is_writable, takes_writes}
use Rattle.tz_state.specs.Memory.{every, byte_at, half_at, word_at, value_at}
use Rattle.std.proofs.lemmas.Bool.Decides.{nat_tests}
use Rattle.tz_mem.specs.Blocks.{BlockValue, region_of, memory_of, view_of, IsPlace, IsRun, is_apart, more_of, number_in}
use Rattle.tz_mem.specs.Values.{IsCode}
use Rattle.tz_mem.proofs.Places.{place_of_run, byte_of_place, mapped_of_place, writable_of_place}
use Rattle.tz_mem.proofs.Bytes.{get_memory_of}

unwrap_get : (xs : List ℕ) (i : ℕ) → unwrap_or (slice_get xs i) 0 ≡ slice_index xs i
unwrap_get [] i = refl
unwrap_get (x ∷ xs) zero = refl
unwrap_get (x ∷ xs) (suc i) = unwrap_get xs i

-- a byte of a run
place_in_run : (ks : List BlockValue) (a more i j t b o : ℕ) → IsRun ks a (a + more) i j → t ≤ more → b ≡ a + t → o ≡ j + t → IsPlace ks b i o
place_in_run ks a more i j t b o h l at off = rw (at, off) (place_of_run ks a (a + more) i j t h (omega arith))

byte_in_run : (ks : List BlockValue) (a more i j t b o : ℕ) (k : BlockValue) → IsRun ks a (a + more) i j → k ≡ get_or ks i k → t ≤ more → b ≡ a + t → o ≡ j + t
    → (is_mapped (map region_of ks) b ≡ true) × (byte_at (memory_of ks) b ≡ slice_index k.bytes o)
byte_in_run ks a more i j t b o k h is l at off =
    let place = place_in_run ks a more i j t b o h l at off in
    (mapped_of_place ks b i o place, ap (λ (x : Option ℕ). unwrap_or x 0) (get_memory_of ks b ∙ byte_of_place ks b i o k place is) ∙ unwrap_get k.bytes o)

pub run_number : (ks : List BlockValue) (a i j : ℕ) (size : Size) (k : BlockValue) → a + more_of size < 2 ^ 32 → IsRun ks a (a + more_of size) i j → k ≡ get_or ks i k
    → (every (is_mapped (map region_of ks)) a size ≡ true) × (number_in k.bytes j size ≡ value_at (memory_of ks) size a)
unfolding half_at word_at
run_number ks a i j Byte k l h is =
    let first = byte_in_run ks a 0 i j 0 a j k h is (omega arith) (omega arith) (omega arith) in
    (first.0, sym first.1)
run_number ks a i j Half k l h is =
    let first = byte_in_run ks a 1 i j 0 a j k h is (omega arith) (omega arith) (omega arith) in
    let second = byte_in_run ks a 1 i j 1 (wrap (a + 1)) (j + 1) k h is (omega arith) (omega arith) (omega arith) in
    (rw (first.0, second.0) refl, rw (first.1, second.1) refl)
run_number ks a i j Word k l h is =
    let first = byte_in_run ks a 3 i j 0 a j k h is (omega arith) (omega arith) (omega arith) in
    let second = byte_in_run ks a 3 i j 1 (wrap (a + 1)) (j + 1) k h is (omega arith) (omega arith) (omega arith) in
    let third = byte_in_run ks a 3 i j 2 (wrap (a + 2)) (j + 2) k h is (omega arith) (omega arith) (omega arith) in
    let fourth = byte_in_run ks a 3 i j 3 (wrap (a + 3)) (j + 3) k h is (omega arith) (omega arith) (omega arith) in
    (rw (first.0, second.0, third.0, fourth.0) refl, rw (first.1, second.1, third.1, fourth.1) refl)

-- the kind of its block decides for all bytes of a run
writable_in_run : (ks : List BlockValue) (a more i j t b : ℕ) (k : BlockValue) → IsRun ks a (a + more) i j → k ≡ get_or ks i k → t ≤ more → b ≡ a + t → is_writable (map region_of ks) b ≡ takes_writes k.kind
writable_in_run ks a more i j t b k h is l at = writable_of_place ks b i (j + t) k (place_in_run ks a more i j t b (j + t) h l at refl) is

same_and : (b : Bool) → (b && b) ≡ b
same_and true = refl
same_and false = refl

pub run_writable : (ks : List BlockValue) (a i j : ℕ) (size : Size) (k : BlockValue) → a + more_of size < 2 ^ 32 → IsRun ks a (a + more_of size) i j → k ≡ get_or ks i k
    → every (is_writable (map region_of ks)) a size ≡ takes_writes k.kind
run_writable ks a i j Byte k l h is = writable_in_run ks a 0 i j 0 a k h is (omega arith) (omega arith)
run_writable ks a i j Half k l h is =
    let first = writable_in_run ks a 1 i j 0 a k h is (omega arith) (omega arith) in
    let second = writable_in_run ks a 1 i j 1 (wrap (a + 1)) k h is (omega arith) (omega arith) in
    rw (first, second) (same_and (takes_writes k.kind))
run_writable ks a i j Word k l h is =
    let first = writable_in_run ks a 3 i j 0 a k h is (omega arith) (omega arith) in
    let second = writable_in_run ks a 3 i j 1 (wrap (a + 1)) k h is (omega arith) (omega arith) in
    let third = writable_in_run ks a 3 i j 2 (wrap (a + 2)) k h is (omega arith) (omega arith) in
    let fourth = writable_in_run ks a 3 i j 3 (wrap (a + 3)) k h is (omega arith) (omega arith) in
    rw (first, second, third, fourth, same_and (takes_writes k.kind), same_and (takes_writes k.kind)) (same_and (takes_writes k.kind))

-- ---- a part of a run

apart_within : (k : BlockValue) (a last b end : ℕ) → is_apart k a last ≡ true → a ≤ b → end ≤ last → is_apart k b end ≡ true
apart_within k a last b end h low high = grind (arith, nat_tests)

run_within : (ks : List BlockValue) (a last b end i j : ℕ) → IsRun ks a last i j → a ≤ b → b ≤ end → end ≤ last → IsRun ks b end i (j + (b - a))
run_within [] a last b end i j h low mid high = absurd h
run_within (k ∷ ks) a last b end zero j h low mid high = (omega (arith, h.0), omega (arith, h.1))
run_within (k ∷ ks) a last b end (suc i) j h low mid high = (apart_within k a last b end h.0 low high, run_within ks a last b end i j h.1 low mid high)

-- the two halfwords of a run of four bytes
pub run_code : (ks : List BlockValue) (a i j first second : ℕ) (k : BlockValue) → a + 3 < 2 ^ 32 → IsRun ks a (a + 3) i j → k ≡ get_or ks i k
    → first ≡ number_in k.bytes j Half → second ≡ number_in k.bytes (j + 2) Half → IsCode (view_of ks) a first (Some second)
run_code ks a i j first second k l h is at next =
    let low : IsRun ks a (a + 1) i (j + (a - a)) = run_within ks a (a + 3) a (a + 1) i j h (omega arith) (omega arith) (omega arith) in
    let high : IsRun ks (a + 2) (a + 2 + 1) i (j + (a + 2 - a)) = run_within ks a (a + 3) (a + 2) (a + 2 + 1) i j h (omega arith) (omega arith) (omega arith) in
    let here : j + (a - a) ≡ j = omega arith in
    let after : j + (a + 2 - a) ≡ j + 2 = omega arith in
    let past : wrap (a + 2) ≡ a + 2 = omega arith in
    let low_is = run_number ks a i (j + (a - a)) Half k (omega arith) low is in
    let high_is = run_number ks (a + 2) i (j + (a + 2 - a)) Half k (omega arith) high is in
    record {
      mapped = low_is.0;
      first_is = at ∙ ap (λ o. number_in k.bytes o Half) (sym here) ∙ low_is.1;
      second_is = rw past (high_is.0, next ∙ ap (λ o. number_in k.bytes o Half) (sym after) ∙ high_is.1);
    }
