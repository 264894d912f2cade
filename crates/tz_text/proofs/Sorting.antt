-- Segments in the order of their addresses: one list alone ascends and has the segments that another list has.
use Rattle.std.proofs.Common.{◌≡◌, ◌≢◌, ◌∙◌, ◌<◌, ◌≤◌, ◌⊎◌, ℕ, zero, suc, true, false, cond, refl, sym, ap, subst, arith, List, [], ◌∷◌, length, get_or, inl, inr, Contains, sum_by, IsPermutation, ◌==◌, nat_le, ◌^◌}
use Rattle.std.specs.List.Sorted.{IsNonDecreasingBy}
use Rattle.std.proofs.lemmas.Bool.{and_parts, and_from, cond_both, le-leb, leb-true, leb-false, or_cases}
use Rattle.std.proofs.lemmas.Bool.Decides.{nat_tests}
use Rattle.std.proofs.lemmas.List.Sums.{sum_by-cons, get_or-le-sum_by}
use Rattle.std.proofs.lemmas.List.Sorted.{Contains-permutation, IsPermutation-sym, sum_by-IsPermutation}
use Rattle.tz_model.specs.Image.{SegmentValue, are_addressed, are_clear, clear_of_all, end_of, is_clear_of}
use Rattle.tz_text.specs.Runs.{ascending, filled, has_bytes, placed}

-- ---- what a list has

pub in_head : (x : SegmentValue) (xs : List SegmentValue) → Contains (x ∷ xs) x
in_head x xs = (zero, omega arith, refl)

pub in_later : (x : SegmentValue) (xs : List SegmentValue) (z : SegmentValue) → Contains xs z → Contains (x ∷ xs) z
in_later x xs z h = (suc h.0, let l = h.1 in omega arith, h.2)

pub in_cases : (x : SegmentValue) (xs : List SegmentValue) (z : SegmentValue) → Contains (x ∷ xs) z → (x ≡ z) ⊎ Contains xs z
in_cases x xs z (zero, l, e) = inl e
in_cases x xs z (suc k, l, e) = inr (k, omega arith, e)

pub in_none : (z : SegmentValue) → Contains [] z → ⊥
in_none z h = let l = h.1 in absurd (omega arith)

-- ---- lists that ascend

-- each segment begins below all those behind it
abbrev pub Rises : List SegmentValue → Type 0
Rises [] = Unit {0}
Rises (s ∷ more) = ((q : SegmentValue) → Contains more q → s.base < q.base) × Rises more

same_head : (x y : SegmentValue) (xs ys : List SegmentValue) → Rises (x ∷ xs) → Rises (y ∷ ys) → Contains (y ∷ ys) x → Contains (x ∷ xs) y → x ≡ y
same_head x y xs ys r q hx hy =
    elim (in_cases y ys x hx) [
      | inl e ↦ sym e
      | inr h ↦ elim (in_cases x xs y hy) [
        | inl e ↦ e
        | inr k ↦ let a = q.0 x h in let b = r.0 y k in absurd (omega arith)
      ]
    ]

behind_head : (x y : SegmentValue) (xs ys : List SegmentValue) → x ≡ y → Rises (x ∷ xs) → (z : SegmentValue) → Contains xs z → Contains (y ∷ ys) z → Contains ys z
behind_head x y xs ys e r z h k =
    elim (in_cases y ys z k) [
      | inl w ↦
          let l = r.0 z h in
          let b : x.base ≡ z.base = ap (λ (s : SegmentValue). s.base) (e ∙ w) in
          absurd (omega arith)
      | inr m ↦ m
    ]

-- two lists that ascend and have the same segments are one
unique : (xs ys : List SegmentValue) → Rises xs → Rises ys → ((z : SegmentValue) → Contains xs z → Contains ys z) → ((z : SegmentValue) → Contains ys z → Contains xs z) → xs ≡ ys
unique [] [] r q f g = refl
unique [] (y ∷ ys) r q f g = absurd (in_none y (g y (in_head y ys)))
unique (x ∷ xs) [] r q f g = absurd (in_none x (f x (in_head x xs)))
unique (x ∷ xs) (y ∷ ys) r q f g =
    let e : x ≡ y = same_head x y xs ys r q (f x (in_head x xs)) (g y (in_head y ys)) in
    let rest : xs ≡ ys = unique xs ys r.1 q.1
    (λ z h. behind_head x y xs ys e r z h (f z (in_later x xs z h)))
    (λ z h. behind_head y x ys xs (sym e) q z h (g z (in_later y ys z h))) in
    cc

-- ---- insertion

placed_cases : (s : SegmentValue) (l : List SegmentValue) (z : SegmentValue) → Contains (placed s l) z → (s ≡ z) ⊎ Contains l z
placed_cases s [] z h = in_cases s [] z h
placed_cases s (q ∷ l) z h =
    cond_both (nat_le s.base q.base) (s ∷ q ∷ l) (q ∷ placed s l) (λ (x : List SegmentValue). Contains x z → (s ≡ z) ⊎ Contains (q ∷ l) z)
    (λ _ k. in_cases s (q ∷ l) z k)
    (λ _ k. elim (in_cases q (placed s l) z k) [
      | inl e ↦ inr (zero, omega arith, e)
      | inr m ↦ elim (placed_cases s l z m) [ inl e ↦ inl e | inr n ↦ inr (in_later q l z n) ]
    ])
    h

in_placed : (s : SegmentValue) (l : List SegmentValue) (z : SegmentValue) → (s ≡ z) ⊎ Contains l z → Contains (placed s l) z
in_placed s [] z (inl e) = (zero, omega arith, e)
in_placed s [] z (inr h) = absurd (in_none z h)
in_placed s (q ∷ l) z h =
    cond_both (nat_le s.base q.base) (s ∷ q ∷ l) (q ∷ placed s l) (λ (x : List SegmentValue). Contains x z)
    (λ _. elim h [ inl e ↦ (zero, omega arith, e) | inr k ↦ in_later s (q ∷ l) z k ])
    (λ _. elim h [
      | inl e ↦ in_later q (placed s l) z (in_placed s l z (inl e))
      | inr k ↦ elim (in_cases q l z k) [
        | inl e ↦ (zero, omega arith, e)
        | inr m ↦ in_later q (placed s l) z (in_placed s l z (inr m))
      ]
    ])

placed_rises : (s : SegmentValue) (l : List SegmentValue) → Rises l → ((z : SegmentValue) → Contains l z → s.base ≢ z.base) → Rises (placed s l)
placed_rises s [] r d = (λ z h. absurd (in_none z h), tt)
placed_rises s (q ∷ l) r d =
    cond_both (nat_le s.base q.base) (s ∷ q ∷ l) (q ∷ placed s l) Rises
    (λ e. (λ z h. first (leb-true s.base q.base e) z h, r))
    (λ e. (λ z h. later (leb-false s.base q.base e) z h, placed_rises s l r.1 (λ z h. d z (in_later q l z h))))
  where
    first : s.base ≤ q.base → (z : SegmentValue) → Contains (q ∷ l) z → s.base < z.base
    first e z h =
        let apart = d z h in
        elim (in_cases q l z h) [
          | inl w ↦ let b : q.base ≡ z.base = ap (λ (s : SegmentValue). s.base) w in omega (arith, apart)
          | inr k ↦ let b = r.0 z k in omega arith
        ]

    later : q.base < s.base → (z : SegmentValue) → Contains (placed s l) z → q.base < z.base
    later e z h =
        elim (placed_cases s l z h) [
          | inl w ↦ let b : s.base ≡ z.base = ap (λ (s : SegmentValue). s.base) w in omega arith
          | inr k ↦ r.0 z k
        ]

pub ascending_cases : (l : List SegmentValue) (z : SegmentValue) → Contains (ascending l) z → Contains l z
ascending_cases [] z h = h
ascending_cases (s ∷ l) z h =
    elim (placed_cases s (ascending l) z h) [
      | inl e ↦ (zero, omega arith, e)
      | inr k ↦ in_later s l z (ascending_cases l z k)
    ]

pub in_ascending : (l : List SegmentValue) (z : SegmentValue) → Contains l z → Contains (ascending l) z
in_ascending [] z h = h
in_ascending (s ∷ l) z h =
    elim (in_cases s l z h) [
      | inl e ↦ in_placed s (ascending l) z (inl e)
      | inr k ↦ in_placed s (ascending l) z (inr (in_ascending l z k))
    ]

-- ---- segments that begin at an address

-- 1 where a segment begins there
abbrev pub begins : ℕ → SegmentValue → ℕ
begins a s = cond (s.base == a) 1 0

begins_there : (a : ℕ) (s : SegmentValue) → s.base ≡ a → begins a s ≡ 1
begins_there a s e = grind (arith, nat_tests)

begins_most : (a : ℕ) (s : SegmentValue) → begins a s ≤ 1
begins_most a s = grind (arith, nat_tests)

begins_cases : (a : ℕ) (s : SegmentValue) → (s.base ≡ a) ⊎ (begins a s ≡ 0)
begins_cases a s = grind (arith, nat_tests)

-- no two segments begin at one address
abbrev pub AreAlone : List SegmentValue → Type 0
AreAlone l = (a : ℕ) → sum_by (begins a) l ≤ 1

alone_tail : (s : SegmentValue) (l : List SegmentValue) → AreAlone (s ∷ l) → AreAlone l
alone_tail s l h a = let e = sum_by-cons (begins a) s l in let k = h a in omega arith

alone_head : (s : SegmentValue) (l : List SegmentValue) → AreAlone (s ∷ l) → (z : SegmentValue) → Contains l z → s.base ≢ z.base
alone_head s l h z k e =
    let all = sum_by-cons (begins z.base) s l in
    let most = h z.base in
    let one = begins_there z.base s e in
    let same : begins z.base (get_or l k.0 z) ≡ begins z.base z = ap (begins z.base) k.2 in
    let other = begins_there z.base z refl in
    let within = get_or-le-sum_by (begins z.base) l k.0 z k.1 in
    omega arith

pub ascending_rises : (l : List SegmentValue) → AreAlone l → Rises (ascending l)
ascending_rises [] h = tt
ascending_rises (s ∷ l) h =
    placed_rises s (ascending l) (ascending_rises l (alone_tail s l h)) (λ z k. alone_head s l h z (ascending_cases l z k))

sorted_rises : (l : List SegmentValue) → IsNonDecreasingBy (λ (s : SegmentValue). s.base) l → AreAlone l → Rises l
sorted_rises [] n h = tt
sorted_rises (s ∷ l) n h = (above, sorted_rises l (λ i j d le lt. n (suc i) (suc j) d (omega arith) (omega arith)) (alone_tail s l h))
  where
    above : (z : SegmentValue) → Contains l z → s.base < z.base
    above z k =
        let inside = k.1 in
        let order = n 0 (suc k.0) z (omega arith) (omega arith) in
        let at : (get_or l k.0 z).base ≡ z.base = ap (λ (s : SegmentValue). s.base) k.2 in
        let apart = alone_head s l h z k in
        omega (arith, order, at, apart)

-- ---- the segments of an image

pub bytes_some : (s : SegmentValue) → has_bytes s ≡ true → 0 < length s.bytes
bytes_some s h = grind (arith, nat_tests)

pub bytes_none : (s : SegmentValue) → has_bytes s ≡ false → length s.bytes ≡ 0
bytes_none s h = grind (arith, nat_tests)

none_begins : (s : SegmentValue) (more : List SegmentValue) (a : ℕ) → clear_of_all s more ≡ true → 0 < length s.bytes → s.base ≡ a → sum_by (begins a) (filled more) ≡ 0
none_begins s [] a h l e = refl
none_begins s (q ∷ more) a h l e =
    let parts = and_parts (is_clear_of s q) (clear_of_all s more) h in
    let rest = none_begins s more a parts.1 l e in
    cond_both (has_bytes q) (q ∷ filled more) (filled more) (λ (x : List SegmentValue). sum_by (begins a) x ≡ 0)
    (λ some.
    let long = bytes_some q some in
    let all = sum_by-cons (begins a) q (filled more) in
    let apart : q.base ≢ a = λ at. elim (or_cases _ _ parts.0) [
      | inl b ↦ let c = leb-true (end_of s) q.base b in omega arith
      | inr b ↦ let c = leb-true (end_of q) s.base b in omega arith
    ] in
    elim (begins_cases a q) [
      | inl at ↦ absurd (apart at)
      | inr none ↦ omega arith
    ])
    (λ _. rest)

pub filled_alone : (l : List SegmentValue) → are_clear l ≡ true → AreAlone (filled l)
filled_alone [] h a = omega arith
filled_alone (s ∷ more) h a =
    let parts = and_parts (clear_of_all s more) (are_clear more) h in
    let rest = filled_alone more parts.1 a in
    cond_both (has_bytes s) (s ∷ filled more) (filled more) (λ (x : List SegmentValue). sum_by (begins a) x ≤ 1)
    (λ some.
    let long = bytes_some s some in
    let all = sum_by-cons (begins a) s (filled more) in
    let most = begins_most a s in
    elim (begins_cases a s) [
      | inl at ↦ let none = none_begins s more a parts.0 long at in omega arith
      | inr none ↦ omega arith
    ])
    (λ _. rest)

-- a sorted list of the segments that have bytes is the one that insertion makes
pub sorted_is : (segments kept sorted : List SegmentValue) → are_clear segments ≡ true → kept ≡ filled segments → IsPermutation kept sorted
    → IsNonDecreasingBy (λ (s : SegmentValue). s.base) sorted → sorted ≡ ascending (filled segments)
sorted_is segments kept sorted clear is moved order =
    let alone : AreAlone kept = subst AreAlone (sym is) (filled_alone segments clear) in
    let still : AreAlone sorted = λ a. let e = sum_by-IsPermutation (begins a) kept sorted moved in let h = alone a in omega arith in
    unique sorted (ascending kept) (sorted_rises sorted order still) (ascending_rises kept alone)
    (λ z h. in_ascending kept z (Contains-permutation sorted kept z (IsPermutation-sym kept sorted moved) h))
    (λ z h. Contains-permutation kept sorted z moved (ascending_cases kept z h))
    ∙ ap ascending is

-- ---- addresses

Below : SegmentValue → Type 0
Below s = end_of s ≤ 2 ^ 32

addressed_each : (l : List SegmentValue) → are_addressed l ≡ true → (z : SegmentValue) → Contains l z → end_of z ≤ 2 ^ 32
addressed_each [] h z k = absurd (in_none z k)
addressed_each (s ∷ l) h z k =
    let parts = and_parts (nat_le (end_of s) (2 ^ 32)) (are_addressed l) h in
    elim (in_cases s l z k) [
      | inl e ↦ subst (λ (q : SegmentValue). end_of q ≤ 2 ^ 32) e (leb-true (end_of s) (2 ^ 32) parts.0)
      | inr m ↦ addressed_each l parts.1 z m
    ]

addressed_from : (l : List SegmentValue) → ((z : SegmentValue) → Contains l z → end_of z ≤ 2 ^ 32) → are_addressed l ≡ true
addressed_from [] h = refl
addressed_from (s ∷ l) h = and_from _ _ (le-leb (end_of s) (2 ^ 32) (h s (in_head s l))) (addressed_from l (λ z k. h z (in_later s l z k)))

pub in_filled : (l : List SegmentValue) (z : SegmentValue) → Contains (filled l) z → Contains l z
in_filled [] z h = h
in_filled (s ∷ l) z h =
    cond_both (has_bytes s) (s ∷ filled l) (filled l) (λ (x : List SegmentValue). Contains x z → Contains (s ∷ l) z)
    (λ _ k. elim (in_cases s (filled l) z k) [ inl e ↦ (zero, omega arith, e) | inr m ↦ in_later s l z (in_filled l z m) ])
    (λ _ k. in_later s l z (in_filled l z k))
    h

-- what was below 2^32 is there in another order, too
pub sorted_addressed : (segments kept sorted : List SegmentValue) → are_addressed segments ≡ true → kept ≡ filled segments → IsPermutation kept sorted → are_addressed sorted ≡ true
sorted_addressed segments kept sorted below is moved =
    addressed_from sorted (λ z h. addressed_each segments below z (in_filled segments z (subst (λ (l : List SegmentValue). Contains l z) is (Contains-permutation sorted kept z (IsPermutation-sym kept sorted moved) h))))
