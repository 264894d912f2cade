-- What the finite map of blocks has at an address.
use Rattle.std.proofs.Common.{◌≡◌, ◌≢◌, ◌⊎◌, inl, inr, ℕ, zero, suc, ◌+◌, ◌-◌, ◌<◌, ◌≤◌, true, false, List, [], ◌∷◌, ◌++◌, length, get_or, Some, slice_get, refl, sym, ap, ◌∙◌, arith}
use Rattle.std.specs.Ordering.{nat_cmp, eq_by_cmp}
use Rattle.std.specs.Cmp.{nat_cmp_total}
use Rattle.std.specs.FinMap.{get, find, get-from_entries}
use Rattle.std.proofs.lemmas.Bool.Decides.{nat_tests}
use Rattle.std.proofs.lemmas.Bool.{cond_both}
use Rattle.tz_model.specs.Image.{entries_from}
use Rattle.tz_mem.specs.Blocks.{BlockValue, holds, byte_in, entries_of, memory_of}
use Rattle.tz_mem.proofs.Places.{in_of, out_of}

pub tied : (q k : ℕ) → q ≡ k → eq_by_cmp nat_cmp q k ≡ true
tied q k e = grind (arith, nat_tests)

pub untied : (q k : ℕ) → q ≢ k → eq_by_cmp nat_cmp q k ≡ false
untied q k e = grind (arith, nat_tests)

find_here : (base : ℕ) (bs : List ℕ) (es : List (ℕ × ℕ)) (j q : ℕ) → base + j ≡ q → j < length bs → find nat_cmp q (entries_from base bs ++ es) ≡ slice_get bs j
find_here base [] es j q e l = absurd (omega arith)
find_here base (b ∷ bs) es zero q e l = rw (tied q base (omega arith)) refl
find_here base (b ∷ bs) es (suc j) q e l = rw (untied q base (omega arith)) (find_here (base + 1) bs es j q (omega arith) (omega arith))

find_past : (base : ℕ) (bs : List ℕ) (es : List (ℕ × ℕ)) (q : ℕ) → (q < base) ⊎ (base + length bs ≤ q) → find nat_cmp q (entries_from base bs ++ es) ≡ find nat_cmp q es
find_past base [] es q out = refl
find_past base (b ∷ bs) es q (inl below) = rw (untied q base (omega arith)) (find_past (base + 1) bs es q (inl (omega arith)))
find_past base (b ∷ bs) es q (inr above) = rw (untied q base (omega arith)) (find_past (base + 1) bs es q (inr (omega arith)))

find_blocks : (ks : List BlockValue) (q : ℕ) → find nat_cmp q (entries_of ks) ≡ byte_in ks q
find_blocks [] q = refl
find_blocks (k ∷ ks) q = cond_both (holds k q) (slice_get k.bytes (q - k.base)) (byte_in ks q) (λ x. find nat_cmp q (entries_of (k ∷ ks)) ≡ x)
    (λ is. let h = in_of k q is in find_here k.base k.bytes (entries_of ks) (q - k.base) q h.0 h.1)
    (λ not. find_past k.base k.bytes (entries_of ks) q (out_of k q not) ∙ find_blocks ks q)

pub get_memory_of : (ks : List BlockValue) (q : ℕ) → get (memory_of ks) q ≡ byte_in ks q
unfolding memory_of
get_memory_of ks q = get-from_entries nat_cmp_total (entries_of ks) q ∙ find_blocks ks q

pub get_here : (xs : List ℕ) (i x : ℕ) → i < length xs → x ≡ get_or xs i x → slice_get xs i ≡ Some x
get_here [] i x l is = absurd (omega arith)
get_here (y ∷ xs) zero x l is = ap Some (sym is)
get_here (y ∷ xs) (suc i) x l is = get_here xs i x (omega arith) is
