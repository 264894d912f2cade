-- Slots that are idle from a place on: what a write leaves, and what a copy need not have.
use Rattle.std.proofs.Common.{◌≡◌, ◌⊎◌, inl, inr, ℕ, zero, suc, refl, true, ◌+◌, ◌-◌, ◌<◌, ◌≤◌, List, [], ◌∷◌, ◌++◌, length, get_or, take, drop, set, replicate, max, get_or-drop, ap, sym, ◌∙◌, subst, arith}
use Rattle.std.proofs.Math.Nat.{le-max_left, le-max_right}
use Rattle.std.proofs.Math.Seq.{take-append_seam}
use Rattle.std.proofs.lemmas.List.{drop-drop, drop-set-lt, drop-replicate, take-append-drop, get_or_past, get_or-replicate, length-replicate}
use Rattle.tz_state.specs.declared.slot.SlotState.{SlotState}
use Rattle.std.specs.Prelude.{◌&&◌}
use Rattle.std.specs.Cmp.Lexicographic.{pointwise}
use Rattle.tz_state.specs.Slots.{idle, places}
use Rattle.tz_state.specs.Difference.{is_same_slot}
use Rattle.tz_nvic.specs.Viewed.{AreIdleFrom}

idle_more : (n k : ℕ) (slots : List SlotState) → AreIdleFrom n slots → drop (n + k) slots ≡ replicate (places - (n + k)) idle
idle_more n k slots h =
    sym (drop-drop k n slots) ∙ ap (drop k) h.1 ∙ drop-replicate k (places - n) idle ∙ ap (λ c. replicate c idle) (let e : places - n - k ≡ places - (n + k) = omega arith in e)

-- from each later place on
idle_later : (n i : ℕ) (slots : List SlotState) → AreIdleFrom n slots → n ≤ i → drop i slots ≡ replicate (places - i) idle
idle_later n i slots h later =
    subst (λ c. drop c slots ≡ replicate (places - c) idle) (let e : n + (i - n) ≡ i = omega arith in e) (idle_more n (i - n) slots h)

pub below_or_not : (i n : ℕ) → (i < n) ⊎ (n ≤ i)
below_or_not i n = grind arith

pub all_same : {A : Type 0} (n i : ℕ) (x : A) → get_or (replicate n x) i x ≡ x
all_same n i x = elim (below_or_not i n) [ inl h ↦ get_or-replicate n i x x h | inr h ↦ get_or_past (replicate n x) i x (omega (arith, length-replicate n x)) ]

-- each of them is idle
pub idle_at : (n i : ℕ) (slots : List SlotState) → AreIdleFrom n slots → n ≤ i → get_or slots i idle ≡ idle
idle_at n i slots h later =
    let e : n + (i - n) ≡ i = omega arith in
    ap (λ k. get_or slots k idle) (sym e) ∙ sym (get_or-drop n slots (i - n) idle) ∙ ap (λ l. get_or l (i - n) idle) h.1 ∙ all_same (places - n) (i - n) idle

-- a slot before them is written
idle_behind : (n i : ℕ) (slots : List SlotState) (x : SlotState) → i < n → AreIdleFrom n slots → AreIdleFrom n (set slots i x)
idle_behind n i slots x before h = (h.0, drop-set-lt n slots i x before ∙ h.1)

-- one of them is written
idle_after : (n i : ℕ) (slots : List SlotState) (x : SlotState) → n ≤ i → i < places → AreIdleFrom n slots → AreIdleFrom (i + 1) (set slots i x)
idle_after n i slots x among fits h =
    (omega arith, drop-set-lt (i + 1) slots i x (omega arith) ∙ idle_later n (i + 1) slots h (omega arith))

-- any slot is written
pub idle_written : (n i : ℕ) (slots : List SlotState) (x : SlotState) → i < places → AreIdleFrom n slots → AreIdleFrom (max n (i + 1)) (set slots i x)
idle_written n i slots x fits h = elim (below_or_not i n) [
  | inl b ↦ subst (λ m. AreIdleFrom m (set slots i x)) (let e : n ≡ max n (i + 1) = omega arith in e) (idle_behind n i slots x b h)
  | inr b ↦ subst (λ m. AreIdleFrom m (set slots i x)) (let e : i + 1 ≡ max n (i + 1) = omega arith in e) (idle_after n i slots x b fits h)
]

-- what a copy leaves of as many slots, where those that are idle in both stay
pub copied : (n m k count : ℕ) (slots others new : List SlotState) → AreIdleFrom n slots → AreIdleFrom m others → k ≡ max n m → length others ≡ count
    → new ≡ take k others ++ drop k slots → take count (new ++ drop (length new) slots) ≡ others
copied n m k count slots others new h g end many is =
    let first = subst (λ l. n ≤ l) (sym end) (le-max_left n m) in
    let second = subst (λ l. m ≤ l) (sym end) (le-max_right n m) in
    let same = is ∙ ap (λ l. take k others ++ l) (idle_later n k slots h first ∙ sym (idle_later m k others g second)) ∙ take-append-drop k others in
    ap (λ c. take c (new ++ drop (length new) slots)) (sym many ∙ ap length (sym same)) ∙ take-append_seam new (drop (length new) slots) ∙ same

-- what is the same behind a place is told by what stands before it
same_before : (k : ℕ) (xs ys : List SlotState) → pointwise is_same_slot (drop k xs) (drop k ys) ≡ true → pointwise is_same_slot (take k xs) (take k ys) ≡ pointwise is_same_slot xs ys
same_before zero xs ys h = sym h
same_before (suc k) [] [] h = refl
same_before (suc k) [] (y ∷ ys) h = refl
same_before (suc k) (x ∷ xs) [] h = refl
same_before (suc k) (x ∷ xs) (y ∷ ys) h = ap (λ t. is_same_slot x y && t) (same_before k xs ys h)

all_idle : (n : ℕ) → pointwise is_same_slot (replicate n idle) (replicate n idle) ≡ true
all_idle zero = refl
all_idle (suc n) = all_idle n

-- slots that are idle in both are the same
pub same_below : (n m k : ℕ) (slots others : List SlotState) → AreIdleFrom n slots → AreIdleFrom m others → k ≡ max n m
    → pointwise is_same_slot (take k slots) (take k others) ≡ pointwise is_same_slot slots others
same_below n m k slots others h g end =
    let first = subst (λ l. n ≤ l) (sym end) (le-max_left n m) in
    let second = subst (λ l. m ≤ l) (sym end) (le-max_right n m) in
    same_before k slots others (rw (idle_later n k slots h first, idle_later m k others g second) (all_idle (places - k)))
