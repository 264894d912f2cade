-- What a look at slices of two blocks tells of two memories.
use Rattle.std.proofs.Common.{◌≡◌, ℕ, zero, suc, ◌+◌, ◌-◌, ◌<◌, ◌≤◌, Bool, true, false, ◌&&◌, ◌||◌, List, [], ◌∷◌, length, get_or, take, drop, map, Some, slice_get, refl, sym, ap, ◌∙◌, subst, arith}
use Rattle.std.specs.Prelude.{◌==◌, not, nat_eq, is_some}
use Rattle.std.specs.List.{slice_range}
use Rattle.std.specs.FinMap.{get}
use Rattle.std.specs.Cmp.Lexicographic.{pointwise}
use Rattle.std.proofs.lemmas.List.{length-map, length-drop, length-take-le}
use Rattle.std.proofs.lemmas.Bool.{and_parts}
use Rattle.std.proofs.lemmas.Bool.Decides.{nat_tests}
use Rattle.tz_model.specs.declared.board.Region.{Region}
use Rattle.tz_model.specs.Board.{is_apart, apart_from, are_apart}
use Rattle.tz_state.specs.Memory.{Memory}
use Rattle.tz_state.specs.Difference.{byte_differs}
use Rattle.tz_mem.specs.Blocks as blocks
use Rattle.tz_mem.specs.Blocks.{BlockValue, region_of, holds, holds_all, IsPlace, IsRun, memory_of, view_of}
use Rattle.tz_mem.specs.Difference.{some_from, region_at, IsFilled}
use Rattle.tz_mem.proofs.Places.{all_of, byte_of_place, mapped_at}
use Rattle.tz_mem.proofs.Bytes.{get_memory_of}

-- there is a byte where some region holds the address
pub filled : (ks : List BlockValue) → IsFilled (view_of ks)
filled ks = record { there = λ a. ap (is_some {T = ℕ}) (get_memory_of ks a) ∙ sym (mapped_at ks a) }

-- ---- the block of a number

pub region_there : (ks : List BlockValue) (i : ℕ) (k : BlockValue) → i < length ks → k ≡ get_or ks i k → region_at (map region_of ks) i ≡ region_of k
region_there [] i k l is = absurd (omega arith)
region_there (r ∷ ks) zero k l is = ap region_of (sym is)
region_there (r ∷ ks) (suc i) k l is = region_there ks i k (omega arith) is

pub same_length : (ks hs : List BlockValue) → map region_of ks ≡ map region_of hs → length ks ≡ length hs
same_length ks hs e = sym (length-map ks region_of) ∙ ap (length {A = Region}) e ∙ length-map hs region_of

apart_there : (r : Region) (ks : List BlockValue) (i : ℕ) (k : BlockValue) → apart_from r (map region_of ks) ≡ true → i < length ks → k ≡ get_or ks i k → is_apart r (region_of k) ≡ true
apart_there r [] i k apart l is = absurd (omega arith)
apart_there r (q ∷ ks) zero k apart l is =
    subst (λ (x : BlockValue). is_apart r (region_of x) ≡ true) (sym is) (and_parts (is_apart r (region_of q)) (apart_from r (map region_of ks)) apart).0
apart_there r (q ∷ ks) (suc i) k apart l is =
    apart_there r ks i k (and_parts (is_apart r (region_of q)) (apart_from r (map region_of ks)) apart).1 (omega arith) is

out_of_other : (r k : BlockValue) (j : ℕ) → is_apart (region_of r) (region_of k) ≡ true → j < length k.bytes → holds r (k.base + j) ≡ false
out_of_other r k j apart l = grind (arith, nat_tests)

-- of blocks that share no byte each has the bytes of its addresses
placed : (ks : List BlockValue) (i j : ℕ) (k : BlockValue) → are_apart (map region_of ks) ≡ true → i < length ks → k ≡ get_or ks i k → j < length k.bytes → IsPlace ks (k.base + j) i j
placed [] i j k apart l is fit = absurd (omega arith)
placed (r ∷ ks) zero j k apart l is fit = (ap (λ (x : BlockValue). x.base + j) (sym is), subst (λ (x : BlockValue). j < length x.bytes) is fit)
placed (r ∷ ks) (suc i) j k apart l is fit =
    let parts = and_parts (apart_from (region_of r) (map region_of ks)) (are_apart (map region_of ks)) apart in (
      out_of_other r k j (apart_there (region_of r) ks i k parts.0 (omega arith) is) fit,
      placed ks i j k parts.1 (omega arith) is fit,
    )

-- nor does another hold any of some addresses where one holds all
out_of_all : (r k : BlockValue) (a last : ℕ) → is_apart (region_of r) (region_of k) ≡ true → a ≤ last → holds_all k a last ≡ true → blocks.is_apart r a last ≡ true
out_of_all r k a last apart l is = grind (arith, nat_tests)

pub run_there : (ks : List BlockValue) (a last i : ℕ) (k : BlockValue) → are_apart (map region_of ks) ≡ true → i < length ks → k ≡ get_or ks i k → a ≤ last → holds_all k a last ≡ true → IsRun ks a last i (a - k.base)
run_there [] a last i k apart l is below all = absurd (omega arith)
run_there (r ∷ ks) a last zero k apart l is below all =
    let e = all_of k a last below all in
    subst (λ (x : BlockValue). (x.base + (a - k.base) ≡ a) × (a - k.base + (last - a) < length x.bytes)) is e
run_there (r ∷ ks) a last (suc i) k apart l is below all =
    let parts = and_parts (apart_from (region_of r) (map region_of ks)) (are_apart (map region_of ks)) apart in (
      out_of_all r k a last (apart_there (region_of r) ks i k parts.0 (omega arith) is) below all,
      run_there ks a last i k parts.1 (omega arith) is below all,
    )

byte_there : (ks : List BlockValue) (i j : ℕ) (k : BlockValue) → are_apart (map region_of ks) ≡ true → i < length ks → k ≡ get_or ks i k → j < length k.bytes → get (memory_of ks) (k.base + j) ≡ slice_get k.bytes j
byte_there ks i j k apart l is fit = get_memory_of ks (k.base + j) ∙ byte_of_place ks (k.base + j) i j k (placed ks i j k apart l is fit) is

-- ---- slices

not_both : (p q : Bool) → not (p && q) ≡ (not p || not q)
not_both true q = refl
not_both false q = refl

-- two lists of bytes that stand at the same addresses of two memories
lists_differ : (m n : Memory) (a : ℕ) (us vs : List ℕ) → length us ≡ length vs
    → ((t : ℕ) → t < length us → get m (a + t) ≡ slice_get us t)
    → ((t : ℕ) → t < length vs → get n (a + t) ≡ slice_get vs t)
    → not (pointwise nat_eq us vs) ≡ some_from (byte_differs m n) a (length us)
unfolding some_from
lists_differ m n a [] [] e at other = refl
lists_differ m n a [] (v ∷ vs) e at other = absurd (omega arith)
lists_differ m n a (u ∷ us) [] e at other = absurd (omega arith)
lists_differ m n a (u ∷ us) (v ∷ vs) e at other =
    let first : get m a ≡ Some u = subst (λ x. get m x ≡ Some u) (omega arith) (at 0 (omega arith)) in
    let second : get n a ≡ Some v = subst (λ x. get n x ≡ Some v) (omega arith) (other 0 (omega arith)) in
    let rest = lists_differ m n (a + 1) us vs (omega arith)
    (λ t l. subst (λ x. get m x ≡ slice_get us t) (omega arith) (at (suc t) (omega arith)))
    (λ t l. subst (λ x. get n x ≡ slice_get vs t) (omega arith) (other (suc t) (omega arith))) in
    rw (first, second) (not_both (u == v) (pointwise nat_eq us vs) ∙ ap (λ x. not (u == v) || x) rest)

get_take : (xs : List ℕ) (n t : ℕ) → t < n → slice_get (take n xs) t ≡ slice_get xs t
get_take [] zero t l = refl
get_take [] (suc n) t l = refl
get_take (x ∷ xs) zero t l = absurd (omega arith)
get_take (x ∷ xs) (suc n) zero l = refl
get_take (x ∷ xs) (suc n) (suc t) l = get_take xs n t (omega arith)

get_drop : (xs : List ℕ) (j t : ℕ) → slice_get (drop j xs) t ≡ slice_get xs (j + t)
get_drop xs zero t = ap (slice_get xs) (omega arith)
get_drop [] (suc j) t = refl
get_drop (x ∷ xs) (suc j) t =
    let next : suc (j + t) ≡ suc j + t = omega arith in
    get_drop xs j t ∙ ap (slice_get (x ∷ xs)) next

length_range : (xs : List ℕ) (j n : ℕ) → j + n ≤ length xs → length (slice_range xs j (j + n)) ≡ n
length_range xs j n l =
    let short : j + n - j ≤ length (drop j xs) = omega (arith, length-drop j xs) in
    length-take-le (j + n - j) (drop j xs) short ∙ omega arith

get_range : (xs : List ℕ) (j n t : ℕ) → t < n → slice_get (slice_range xs j (j + n)) t ≡ slice_get xs (j + t)
get_range xs j n t l = get_take (drop j xs) (j + n - j) t (omega arith) ∙ get_drop xs j t

byte_in_range : (ks : List BlockValue) (i j n t a : ℕ) (k : BlockValue) → are_apart (map region_of ks) ≡ true → i < length ks → k ≡ get_or ks i k → j + n ≤ length k.bytes → t < n → a ≡ k.base + j
    → get (memory_of ks) (a + t) ≡ slice_get (slice_range k.bytes j (j + n)) t
byte_in_range ks i j n t a k apart l is fit below at =
    subst (λ x. get (memory_of ks) x ≡ slice_get k.bytes (j + t)) (omega (arith, at)) (byte_there ks i (j + t) k apart l is (omega arith))
    ∙ sym (get_range k.bytes j n t below)

-- slices of the blocks of a number in two lists of blocks with the same regions
pub ranges_differ : (ks hs : List BlockValue) (i j n : ℕ) (k h : BlockValue) → map region_of ks ≡ map region_of hs → are_apart (map region_of ks) ≡ true
    → i < length ks → i < length hs → k ≡ get_or ks i k → h ≡ get_or hs i h → j + n ≤ length k.bytes
    → not (pointwise nat_eq (slice_range k.bytes j (j + n)) (slice_range h.bytes j (j + n))) ≡ some_from (byte_differs (memory_of ks) (memory_of hs)) (k.base + j) n
ranges_differ ks hs i j n k h same apart l l' is is' fit =
    let alike : region_of k ≡ region_of h = sym (region_there ks i k l is) ∙ ap (λ rs. region_at rs i) same ∙ region_there hs i h l' is' in
    let base : h.base ≡ k.base = ap (λ (r : Region). r.base) (sym alike) in
    let size : length h.bytes ≡ length k.bytes = ap (λ (r : Region). r.size) (sym alike) in
    let fit' : j + n ≤ length h.bytes = omega (arith, size) in
    let long = length_range k.bytes j n fit in
    let long' = length_range h.bytes j n fit' in
    let apart' : are_apart (map region_of hs) ≡ true = subst (λ rs. are_apart rs ≡ true) same apart in
    lists_differ (memory_of ks) (memory_of hs) (k.base + j) (slice_range k.bytes j (j + n)) (slice_range h.bytes j (j + n)) (long ∙ sym long')
    (λ t below. byte_in_range ks i j n t (k.base + j) k apart l is fit (omega (arith, long)) refl)
    (λ t below. byte_in_range hs i j n t (k.base + j) h apart' l' is' fit' (omega (arith, long')) (omega (arith, base)))
    ∙ ap (some_from (byte_differs (memory_of ks) (memory_of hs)) (k.base + j)) long
