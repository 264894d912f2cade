-- RBAR and RLAR of the regions of a unit, each from the word of its index, the first of which is k. The first region is
-- that of the number j. Of a word RBAR keeps what c gives, and RLAR what d gives.
use Rattle.std.proofs.Common.{◌≡◌, ℕ, zero, suc, ◌+◌, ◌<◌, List, [], ◌∷◌, length, drop, refl, sym, ap, ◌∙◌, arith}
use Rattle.std.specs.Prelude.{slice_set}
use Rattle.std.proofs.lemmas.List.{length-set}
use Rattle.tz_state.specs.declared.units.Bounds.{Bounds}
use Rattle.tz_state.specs.UnitRegisters.{bounds_at, with_rbar, with_rlar}

-- ---- one region

at_set : (rs : List Bounds) (j : ℕ) (x : Bounds) → j < length rs → bounds_at (slice_set rs j x) j ≡ x
at_set [] j x l = absurd (omega arith)
at_set (r ∷ rs) zero x l = refl
at_set (r ∷ rs) (suc j) x l = at_set rs j x (omega arith)

pub set_at : (rs : List Bounds) (j : ℕ) → slice_set rs j (bounds_at rs j) ≡ rs
set_at [] j = refl
set_at (r ∷ rs) zero = refl
set_at (r ∷ rs) (suc j) = ap (λ (xs : List Bounds). r ∷ xs) (set_at rs j)

at_first : (rs : List Bounds) (j : ℕ) (x : Bounds) (more : List Bounds) → drop j rs ≡ x ∷ more → (bounds_at rs j ≡ x) × (drop (j + 1) rs ≡ more)
at_first [] zero x more e = cc
at_first [] (suc j) x more e = cc
at_first (r ∷ rs) zero x more e = (cc, cc)
at_first (r ∷ rs) (suc j) x more e =
    let rest = at_first rs j x more e in
    let next : suc j + 1 ≡ suc (j + 1) = omega arith in
    (rest.0, ap (λ (i : ℕ). drop i (r ∷ rs)) next ∙ rest.1)

apart : (rs : List Bounds) (j : ℕ) → j < length rs → drop j rs ≡ bounds_at rs j ∷ drop (j + 1) rs
apart [] j l = absurd (omega arith)
apart (r ∷ rs) zero l = refl
apart (r ∷ rs) (suc j) l =
    let next : suc (j + 1) ≡ suc j + 1 = omega arith in
    apart rs j (omega arith) ∙ ap (λ (i : ℕ). bounds_at rs j ∷ drop i (r ∷ rs)) next

none_left : (rs : List Bounds) (j : ℕ) → length rs ≡ j → drop j rs ≡ []
none_left [] zero e = refl
none_left [] (suc j) e = refl
none_left (r ∷ rs) zero e = absurd (omega arith)
none_left (r ∷ rs) (suc j) e = none_left rs j (omega arith)

-- ---- n regions

-- what these words make of them
abbrev pub bounds_from : (ℕ → ℕ) → ℕ → ℕ → List Bounds
bounds_from v k zero = []
bounds_from v k (suc n) = record { rbar = v k; rlar = v (k + 1) } ∷ bounds_from v (k + 1 + 1) n

pub length_from : (v : ℕ → ℕ) (k n : ℕ) → length (bounds_from v k n) ≡ n
length_from v k zero = refl
length_from v k (suc n) = ap suc (length_from v (k + 1 + 1) n)

-- and these are their words
abbrev pub ToldBounds : (ℕ → ℕ) → ℕ → ℕ → ℕ → List Bounds → Type 0
ToldBounds v k j zero rs = Unit {0}
ToldBounds v k j (suc n) rs = ((bounds_at rs j).rbar ≡ v k) × ((bounds_at rs j).rlar ≡ v (k + 1)) × ToldBounds v (k + 1 + 1) (j + 1) n rs

pub told_bounds : (v : ℕ → ℕ) (n k j : ℕ) (rs : List Bounds) → drop j rs ≡ bounds_from v k n → ToldBounds v k j n rs
told_bounds v zero k j rs e = tt
told_bounds v (suc n) k j rs e =
    let both = at_first rs j (record { rbar = v k; rlar = v (k + 1) }) (bounds_from v (k + 1 + 1) n) e in
    (ap (λ (r : Bounds). r.rbar) both.0, ap (λ (r : Bounds). r.rlar) both.0, told_bounds v n (k + 1 + 1) (j + 1) rs both.1)

pub bounds_told : (v : ℕ → ℕ) (n k j : ℕ) (rs : List Bounds) → length rs ≡ j + n → ToldBounds v k j n rs → drop j rs ≡ bounds_from v k n
bounds_told v zero k j rs e h = none_left rs j (omega arith)
bounds_told v (suc n) k j rs e h =
    let here : bounds_at rs j ≡ record { rbar = v k; rlar = v (k + 1) } = λ i. record { rbar = h.0 i; rlar = h.1 i } in
    apart rs j (omega arith)
    ∙ ap (λ (r : Bounds). r ∷ drop (j + 1) rs) here
    ∙ ap (λ (xs : List Bounds). record { rbar = v k; rlar = v (k + 1) } ∷ xs) (bounds_told v n (k + 1 + 1) (j + 1) rs (omega arith) h.2)

module _ (c d : ℕ → ℕ) (v : ℕ → ℕ) where
  abbrev pub bounds_written : ℕ → ℕ → ℕ → List Bounds → List Bounds
  bounds_written k j zero rs = rs
  bounds_written k j (suc n) rs = bounds_written (k + 1 + 1) (j + 1) n (with_rlar (with_rbar rs j (c (v k))) j (d (v (k + 1))))

  -- each holds its word where it is written
  abbrev pub FitBounds : ℕ → ℕ → ℕ → List Bounds → Type 0
  FitBounds k j zero rs = Unit {0}
  FitBounds k j (suc n) rs =
      ((bounds_at (with_rbar rs j (c (v k))) j).rbar ≡ v k)
      × ((bounds_at (with_rlar (with_rbar rs j (c (v k))) j (d (v (k + 1)))) j).rlar ≡ v (k + 1))
      × FitBounds (k + 1 + 1) (j + 1) n (with_rlar (with_rbar rs j (c (v k))) j (d (v (k + 1))))

  -- and none of them changes what it is written to
  abbrev pub SettledBounds : ℕ → ℕ → ℕ → List Bounds → Type 0
  SettledBounds k j zero rs = Unit {0}
  SettledBounds k j (suc n) rs = (with_rbar rs j (c (v k)) ≡ rs) × (with_rlar rs j (d (v (k + 1))) ≡ rs) × SettledBounds (k + 1 + 1) (j + 1) n rs

  -- the unit keeps all of the words
  abbrev pub Kept : ℕ → ℕ → Type 0
  Kept k zero = Unit {0}
  Kept k (suc n) = (c (v k) ≡ v k) × (d (v (k + 1)) ≡ v (k + 1)) × Kept (k + 1 + 1) n

  length_both : (rs : List Bounds) (j x y : ℕ) → length (with_rlar (with_rbar rs j x) j y) ≡ length rs
  length_both rs j x y = length-set (with_rbar rs j x) j _ ∙ length-set rs j _

  pub kept_fit : (n k j : ℕ) (rs : List Bounds) → length rs ≡ j + n → FitBounds k j n rs → Kept k n
  kept_fit zero k j rs e h = tt
  kept_fit (suc n) k j rs e h =
      let one = with_rbar rs j (c (v k)) in
      let first : j < length rs = omega arith in
      let long = length-set rs j (record (bounds_at rs j) { rbar = c (v k) }) in
      let second : j < length one = omega arith in
      let size = length_both rs j (c (v k)) (d (v (k + 1))) in (
        ap (λ (r : Bounds). r.rbar) (sym (at_set rs j (record (bounds_at rs j) { rbar = c (v k) }) first)) ∙ h.0,
        ap (λ (r : Bounds). r.rlar) (sym (at_set one j (record (bounds_at one j) { rlar = d (v (k + 1)) }) second)) ∙ h.1,
        kept_fit n (k + 1 + 1) (j + 1) (with_rlar one j (d (v (k + 1)))) (omega arith) h.2,
      )

  pub fit_kept : (n k j : ℕ) (rs : List Bounds) → length rs ≡ j + n → Kept k n → FitBounds k j n rs
  fit_kept zero k j rs e h = tt
  fit_kept (suc n) k j rs e h =
      let one = with_rbar rs j (c (v k)) in
      let first : j < length rs = omega arith in
      let long = length-set rs j (record (bounds_at rs j) { rbar = c (v k) }) in
      let second : j < length one = omega arith in
      let size = length_both rs j (c (v k)) (d (v (k + 1))) in (
        ap (λ (r : Bounds). r.rbar) (at_set rs j (record (bounds_at rs j) { rbar = c (v k) }) first) ∙ h.0,
        ap (λ (r : Bounds). r.rlar) (at_set one j (record (bounds_at one j) { rlar = d (v (k + 1)) }) second) ∙ h.1,
        fit_kept n (k + 1 + 1) (j + 1) (with_rlar one j (d (v (k + 1)))) (omega arith) h.2,
      )

  pub settled_kept : (n k j : ℕ) (rs : List Bounds) → Kept k n → ToldBounds v k j n rs → SettledBounds k j n rs
  settled_kept zero k j rs h i = tt
  settled_kept (suc n) k j rs h i = (
    ap (λ (x : ℕ). with_rbar rs j x) (h.0 ∙ sym i.0) ∙ set_at rs j,
    ap (λ (x : ℕ). with_rlar rs j x) (h.1 ∙ sym i.1) ∙ set_at rs j,
    settled_kept n (k + 1 + 1) (j + 1) rs h.2 i.2,
  )

  pub kept_settled : (n k j : ℕ) (rs : List Bounds) → length rs ≡ j + n → ToldBounds v k j n rs → SettledBounds k j n rs → Kept k n
  kept_settled zero k j rs e h i = tt
  kept_settled (suc n) k j rs e h i =
      let first : j < length rs = omega arith in (
        ap (λ (r : Bounds). r.rbar) (sym (at_set rs j (record (bounds_at rs j) { rbar = c (v k) }) first) ∙ ap (λ (xs : List Bounds). bounds_at xs j) i.0) ∙ h.0,
        ap (λ (r : Bounds). r.rlar) (sym (at_set rs j (record (bounds_at rs j) { rlar = d (v (k + 1)) }) first) ∙ ap (λ (xs : List Bounds). bounds_at xs j) i.1) ∙ h.1,
        kept_settled n (k + 1 + 1) (j + 1) rs (omega arith) h.2 i.2,
      )

  one_behind : (n k j : ℕ) (r : Bounds) (rs : List Bounds) → bounds_written k (suc j) n (r ∷ rs) ≡ r ∷ bounds_written k j n rs
  one_behind zero k j r rs = refl
  one_behind (suc n) k j r rs =
      let more = with_rlar (with_rbar rs j (c (v k))) j (d (v (k + 1))) in
      let next : suc j + 1 ≡ suc (j + 1) = omega arith in
      ap (λ (i : ℕ). bounds_written (k + 1 + 1) i n (r ∷ more)) next ∙ one_behind n (k + 1 + 1) (j + 1) r more

  pub all_kept : (n k : ℕ) (rs : List Bounds) → length rs ≡ n → Kept k n → bounds_written k 0 n rs ≡ bounds_from v k n
  all_kept zero k [] e h = refl
  all_kept zero k (r ∷ rs) e h = absurd (omega arith)
  all_kept (suc n) k [] e h = absurd (omega arith)
  all_kept (suc n) k (r ∷ rs) e h =
      let here : ◌≡◌ {A = Bounds} (record { rbar = c (v k); rlar = d (v (k + 1)) }) (record { rbar = v k; rlar = v (k + 1) }) = λ i. record { rbar = h.0 i; rlar = h.1 i } in
      one_behind n (k + 1 + 1) 0 (record { rbar = c (v k); rlar = d (v (k + 1)) }) rs
      ∙ ap (λ (x : Bounds). x ∷ bounds_written (k + 1 + 1) 0 n rs) here
      ∙ ap (λ (xs : List Bounds). record { rbar = v k; rlar = v (k + 1) } ∷ xs) (all_kept n (k + 1 + 1) rs (omega arith) h.2)
