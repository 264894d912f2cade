-- Hits of gates, after one more entry.
use Rattle.std.proofs.Common.{◌≡◌, ℕ, zero, suc, ◌+◌, ◌-◌, ◌<◌, ◌≤◌, Bool, true, false, not, cond, List, [], ◌∷◌, ◌++◌, length, get_or, map, Result, Ok, Err, refl, sym, ap, ◌∙◌, arith, inl, inr, add-zero, zero-add, set, get_or-set_same, get_or-set_other}
use Rattle.std.specs.Prelude.{◌==◌, replicate}
use Rattle.std.specs.List.{count_by}
use Rattle.std.specs.List.Sorted.{IsStrictlyIncreasing, IsBinarySearchResult}
use Rattle.std.specs.Ordering.{nat_cmp}
use Rattle.std.specs.Result.{MatchResult}
use Rattle.std.proofs.lemmas.Bool.{eq-eqb, or_right, or_left, or_from, cases_order, cases_lt, cases_eq}
use Rattle.std.proofs.lemmas.Bool.Decides.{nat_tests}
use Rattle.std.proofs.lemmas.Grind.{same_number_lists}
use Rattle.std.proofs.lemmas.List.{get_or-map, length-map}
use Rattle.std.proofs.lemmas.List.Sorted.{searched}
use Rattle.std.proofs.lemmas.List.Sums.{sum_by-append, count_by-le-length}
use Rattle.tz_gates.specs.Entries.{count_at, is_among, count_elsewhere}

-- ---- lists that ascend

rises : (xs : List ℕ) → IsStrictlyIncreasing xs → (i n : ℕ) → i + n < length xs → get_or xs i 0 + n ≤ get_or xs (i + n) 0
rises xs up i zero l = let e : i + zero ≡ i = omega arith in let f = ap (λ (k : ℕ). get_or xs k 0) e in omega arith
rises xs up i (suc n) l =
    let before : get_or xs i 0 + n ≤ get_or xs (i + n) 0 = rises xs up i n (omega arith) in
    let step : get_or xs (i + n) 0 < get_or xs (i + n + 1) 0 = up (i + n) (omega arith) in
    let e : i + suc n ≡ i + n + 1 = omega arith in
    let f = ap (λ (k : ℕ). get_or xs k 0) e in
    omega arith

rises_to : (xs : List ℕ) → IsStrictlyIncreasing xs → (i j : ℕ) → i < j → j < length xs → get_or xs i 0 < get_or xs j 0
rises_to xs up i j l m =
    let e : i + (j - i) ≡ j = omega arith in
    let h : get_or xs i 0 + (j - i) ≤ get_or xs (i + (j - i)) 0 = rises xs up i (j - i) (omega arith) in
    let f = ap (λ (k : ℕ). get_or xs k 0) e in
    omega arith

ordered : (xs : List ℕ) → IsStrictlyIncreasing xs → (i j : ℕ) → i ≤ j → j < length xs → get_or xs i 0 ≤ get_or xs j 0
ordered xs up i j l m = elim (cases_order i j) [
  | inl e ↦ let f = ap (λ (k : ℕ). get_or xs k 0) e in omega arith
  | inr h ↦ elim h [
    | inl k ↦ let f = rises_to xs up i j k m in omega arith
    | inr k ↦ absurd (omega arith)
  ]
]

-- ---- a search

-- the number stands at one place of the list alone, or at none
abbrev pub At : List ℕ → ℕ → Result ℕ ℕ → Type 0
At xs x r = MatchResult r (λ i. (i < length xs) × (get_or xs i 0 ≡ x)) (λ _. (k : ℕ) → k < length xs → (x == get_or xs k 0) ≡ false)

pub found_at : (xs : List ℕ) (x : ℕ) (r : Result ℕ ℕ) → IsStrictlyIncreasing xs → IsBinarySearchResult (λ y. nat_cmp y x) xs r → At xs x r
found_at xs x (Ok i) up h = searched xs x (Ok i) h (ordered xs up)
found_at xs x (Err i) up h = λ k l. let s = searched xs x (Err i) h (ordered xs up) in elim (cases_lt k i) as (λ _. (x == get_or xs k 0) ≡ false) [
  | inl m ↦ let f : get_or xs k 0 < x = s.1 k m in grind (arith, nat_tests)
  | inr m ↦ let f : x < get_or xs k 0 = s.2 k m l in grind (arith, nat_tests)
]

-- elsewhere in the list there is another number
pub other_place : (xs : List ℕ) (x i k : ℕ) → IsStrictlyIncreasing xs → i < length xs → get_or xs i 0 ≡ x → k < length xs → (i ≡ k → ⊥) → (x == get_or xs k 0) ≡ false
other_place xs x i k up l e m apart = elim (cases_order i k) as (λ _. (x == get_or xs k 0) ≡ false) [
  | inl same ↦ absurd (apart same)
  | inr h ↦ elim h as (λ _. (x == get_or xs k 0) ≡ false) [
    | inl n ↦ let f = rises_to xs up i k n m in grind (arith, nat_tests)
    | inr n ↦ let f = rises_to xs up k i n l in grind (arith, nat_tests)
  ]
]

pub among_at : (xs : List ℕ) (x i : ℕ) → i < length xs → get_or xs i 0 ≡ x → is_among xs x ≡ true
among_at [] x i l e = absurd (omega arith)
among_at (y ∷ xs) x zero l e = or_left (x == y) (is_among xs x) (eq-eqb x y (sym e))
among_at (y ∷ xs) x (suc i) l e = or_right (x == y) (is_among xs x) (among_at xs x i (omega arith) e)

pub among_none : (xs : List ℕ) (x : ℕ) → ((k : ℕ) → k < length xs → (x == get_or xs k 0) ≡ false) → is_among xs x ≡ false
among_none [] x none = refl
among_none (y ∷ xs) x none = or_from (x == y) (is_among xs x) (none 0 (omega arith)) (among_none xs x (λ k l. none (suc k) (omega arith)))

-- ---- counts

one_more : (p : ℕ → Bool) (xs : List ℕ) (x : ℕ) → count_by p (xs ++ x ∷ []) ≡ count_by p xs + cond (p x) 1 0
one_more p xs x = sum_by-append (λ y. cond (p y) 1 0) xs (x ∷ []) ∙ ap (λ (n : ℕ). count_by p xs + n) (zero-add (cond (p x) 1 0))

-- one more at each gate that is the address of the entry
pub hits_more : (gates old new done : List ℕ) (x : ℕ) → length new ≡ length gates → old ≡ map (count_at done) gates
    → ((k : ℕ) → k < length gates → get_or new k 0 ≡ get_or old k 0 + cond (x == get_or gates k 0) 1 0) → new ≡ map (count_at (done ++ x ∷ [])) gates
hits_more gates old new done x long was each =
    same_number_lists new (map (count_at (done ++ x ∷ [])) gates) (long ∙ sym (length-map gates (count_at (done ++ x ∷ [])))) (λ k l. at k (omega arith))
  where
    at : (k : ℕ) → k < length gates → get_or new k 0 ≡ get_or (map (count_at (done ++ x ∷ [])) gates) k 0
    at k l =
        each k l ∙ ap (λ (xs : List ℕ). get_or xs k 0 + cond (x == get_or gates k 0) 1 0) was
        ∙ ap (λ (n : ℕ). n + cond (x == get_or gates k 0) 1 0) (get_or-map (count_at done) gates k 0 0 l)
        ∙ sym (one_more (λ p. p == get_or gates k 0) done x) ∙ sym (get_or-map (count_at (done ++ x ∷ [])) gates k 0 0 l)

counted_not : (t : Bool) (n : ℕ) → cond t n (n + 1) ≡ n + cond (not t) 1 0
counted_not true n = sym (add-zero n)
counted_not false n = refl

pub others_more : (gates done : List ℕ) (x others : ℕ) → others ≡ count_elsewhere done gates → cond (is_among gates x) others (others + 1) ≡ count_elsewhere (done ++ x ∷ []) gates
others_more gates done x others was =
    counted_not (is_among gates x) others ∙ ap (λ (n : ℕ). n + cond (not (is_among gates x)) 1 0) was ∙ sym (one_more (λ p. not (is_among gates p)) done x)

pub no_hits : (gates : List ℕ) → replicate (length gates) 0 ≡ map (count_at []) gates
no_hits [] = refl
no_hits (g ∷ gates) = ap (λ (xs : List ℕ). 0 ∷ xs) (no_hits gates)

-- as many as there are entries, at most
pub hits_few : (gates done : List ℕ) (k : ℕ) → k < length gates → get_or (map (count_at done) gates) k 0 ≤ length done
hits_few gates done k l =
    let e = get_or-map (count_at done) gates k 0 0 l in
    let f = count_by-le-length (λ p. p == get_or gates k 0) done in
    omega arith

pub others_few : (gates done : List ℕ) → count_elsewhere done gates ≤ length done
others_few gates done = count_by-le-length (λ p. not (is_among gates p)) done

-- no hit where the entry isn't
pub hit_none : (gates hits : List ℕ) (x k : ℕ) → (x == get_or gates k 0) ≡ false → get_or hits k 0 ≡ get_or hits k 0 + cond (x == get_or gates k 0) 1 0
hit_none gates hits x k isnt = sym (add-zero (get_or hits k 0)) ∙ ap (λ (t : Bool). get_or hits k 0 + cond t 1 0) (sym isnt)

other_hit : (gates hits : List ℕ) (x i k : ℕ) → IsStrictlyIncreasing gates → i < length gates → get_or gates i 0 ≡ x → k < length gates → (i ≡ k → ⊥) → get_or (set hits i (get_or hits i 0 + 1)) k 0 ≡ get_or hits k 0 + cond (x == get_or gates k 0) 1 0
other_hit gates hits x i k up l e m apart = get_or-set_other hits i k (get_or hits i 0 + 1) 0 (λ e. apart (sym e)) ∙ hit_none gates hits x k (other_place gates x i k up l e m apart)

-- one more at the place of the entry, and the others as they were
pub hit_one : (gates hits : List ℕ) (x i : ℕ) → IsStrictlyIncreasing gates → length hits ≡ length gates → i < length gates → get_or gates i 0 ≡ x → (k : ℕ) → k < length gates
    → get_or (set hits i (get_or hits i 0 + 1)) k 0 ≡ get_or hits k 0 + cond (x == get_or gates k 0) 1 0
hit_one gates hits x i up long l e k m = elim (cases_eq i k) [
  | inl same ↦
      let there : i < length hits = omega arith in
      let is : (x == get_or gates k 0) ≡ true = eq-eqb x (get_or gates k 0) (sym e ∙ ap (λ (j : ℕ). get_or gates j 0) same) in
      ap (λ (j : ℕ). get_or (set hits i (get_or hits i 0 + 1)) j 0) (sym same) ∙ get_or-set_same hits i (get_or hits i 0 + 1) 0 there ∙ ap (λ (j : ℕ). get_or hits j 0 + 1) same
      ∙ ap (λ (t : Bool). get_or hits k 0 + cond t 1 0) (sym is)
  | inr apart ↦ other_hit gates hits x i k up l e m apart
]
