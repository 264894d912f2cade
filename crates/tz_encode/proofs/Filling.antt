-- How many slots take the values, and how what they took is filled up.
use Rattle.std.proofs.Common.{◌≡◌, suc, ◌+◌, ◌<◌, ◌≤◌, true, false, List, [], ◌∷◌, ◌++◌, length, take, refl, ◌∙◌, ap, arith, subst, inl, inr}
use Rattle.std.specs.Prelude.{ℤ}
use Rattle.std.proofs.lemmas.Bool.{and_parts, and_from, cond-true, cond-false, cases_Bool, both_ways}
use Rattle.tz_encode.specs.Numbers.{takes, take_all, taken}
use Rattle.tz_encode.specs.declared.slot.CodeSlot.{CodeSlot}
use Rattle.tz_encode.proofs.Describes.{Fillable}

-- values for all slots that begin with those taken so far
pub record Filled (e : List ℤ) (ts : List CodeSlot) (zs : List ℤ) : Type 0 where
  pub all : List ℤ
  pub long : length all ≡ length ts
  pub taken : take_all e ts all ≡ true
  pub begins : take (length zs) all ≡ zs

filled_cons : (e : List ℤ) (t : CodeSlot) (ts : List CodeSlot) (z : ℤ) (zs : List ℤ) → takes t e z ≡ true → Filled (e ++ z ∷ []) ts zs → Filled e (t ∷ ts) (z ∷ zs)
filled_cons e t ts z zs h f = record {
  all = z ∷ f.all;
  long = ap suc f.long;
  taken = and_from _ _ h f.taken;
  begins = ap (λ l. z ∷ l) f.begins;
}

pub take_all-none : (e : List ℤ) (ts : List CodeSlot) → take_all e ts [] ≡ true
take_all-none e [] = refl
take_all-none e (t ∷ ts) = refl

pub fill : (e : List ℤ) (ts : List CodeSlot) (zs : List ℤ) → Fillable e ts → take_all e ts zs ≡ true → length zs ≤ length ts → Filled e ts zs
fill e [] [] f h l = record { all = []; long = refl; taken = refl; begins = refl }
fill e [] (z ∷ zs) f h l = absurd (omega arith)
fill e (t ∷ ts) [] f h l =
    let rest = fill (e ++ f.0.0 ∷ []) ts [] (f.1 f.0.0 f.0.1) (take_all-none (e ++ f.0.0 ∷ []) ts) (omega arith) in
    record { all = f.0.0 ∷ rest.all; long = ap suc rest.long; taken = and_from _ _ f.0.1 rest.taken; begins = refl }
fill e (t ∷ ts) (z ∷ zs) f h l =
    let x = and_parts (takes t e z) (take_all (e ++ z ∷ []) ts zs) h in
    filled_cons e t ts z zs x.0 (fill (e ++ z ∷ []) ts zs (f.1 z x.0) x.1 (omega arith))

-- ---- the first value that isn't taken

taken_more : (e : List ℤ) (t : CodeSlot) (ts : List CodeSlot) (z : ℤ) (zs : List ℤ) → takes t e z ≡ true → taken e (t ∷ ts) (z ∷ zs) ≡ suc (taken (e ++ z ∷ []) ts zs)
taken_more e t ts z zs h = cond-true (takes t e z) (1 + taken (e ++ z ∷ []) ts zs) 0 h ∙ omega arith

taken_none : (e : List ℤ) (t : CodeSlot) (ts : List CodeSlot) (z : ℤ) (zs : List ℤ) → takes t e z ≡ false → taken e (t ∷ ts) (z ∷ zs) ≡ 0
taken_none e t ts z zs h = cond-false (takes t e z) (1 + taken (e ++ z ∷ []) ts zs) 0 h

-- those before it are
pub taken_before : (e : List ℤ) (ts : List CodeSlot) (zs : List ℤ) → take_all e ts (take (taken e ts zs) zs) ≡ true
taken_before e [] zs = refl
taken_before e (t ∷ ts) [] = refl
taken_before e (t ∷ ts) (z ∷ zs) =
    elim (cases_Bool (takes t e z)) [
      | inl h ↦ ap (λ n. take_all e (t ∷ ts) (take n (z ∷ zs))) (taken_more e t ts z zs h) ∙ and_from _ _ h (taken_before (e ++ z ∷ []) ts zs)
      | inr h ↦ ap (λ n. take_all e (t ∷ ts) (take n (z ∷ zs))) (taken_none e t ts z zs h)
    ]

pub taken_le : (e : List ℤ) (ts : List CodeSlot) (zs : List ℤ) → (taken e ts zs ≤ length ts) × (taken e ts zs ≤ length zs)
taken_le e [] zs = (omega arith, omega arith)
taken_le e (t ∷ ts) [] = (omega arith, omega arith)
taken_le e (t ∷ ts) (z ∷ zs) =
    elim (cases_Bool (takes t e z)) [
      | inl h ↦ let r = taken_le (e ++ z ∷ []) ts zs in let q = taken_more e t ts z zs h in (omega arith, omega arith)
      | inr h ↦ let q = taken_none e t ts z zs h in (omega arith, omega arith)
    ]

-- no values that are all taken agree with these up to it
pub taken_stops : (e : List ℤ) (ts : List CodeSlot) (zs ws : List ℤ) → take_all e ts ws ≡ true → taken e ts zs < length ts → length ts ≡ length zs → length ts ≡ length ws → take (suc (taken e ts zs)) ws ≡ take (suc (taken e ts zs)) zs → ⊥
taken_stops e [] zs ws a lt lz lw same = omega arith
taken_stops e (t ∷ ts) [] ws a lt lz lw same = omega arith
taken_stops e (t ∷ ts) (z ∷ zs) [] a lt lz lw same = omega arith
taken_stops e (t ∷ ts) (z ∷ zs) (w ∷ ws) a lt lz lw same =
    let x = and_parts (takes t e w) (take_all (e ++ w ∷ []) ts ws) a in
    elim (cases_Bool (takes t e z)) [
      | inl h ↦
          let more = taken_more e t ts z zs h in
          let agree : w ∷ take (suc (taken (e ++ z ∷ []) ts zs)) ws ≡ z ∷ take (suc (taken (e ++ z ∷ []) ts zs)) zs = subst (λ n. take (suc n) (w ∷ ws) ≡ take (suc n) (z ∷ zs)) more same in
          let head : w ≡ z = cc in
          let tail : take (suc (taken (e ++ z ∷ []) ts zs)) ws ≡ take (suc (taken (e ++ z ∷ []) ts zs)) zs = cc in
          taken_stops (e ++ z ∷ []) ts zs ws (subst (λ y. take_all (e ++ y ∷ []) ts ws ≡ true) head x.1) (omega arith) (omega arith) (omega arith) tail
      | inr h ↦
          let none = taken_none e t ts z zs h in
          let agree : w ∷ [] ≡ z ∷ [] = subst (λ n. take (suc n) (w ∷ ws) ≡ take (suc n) (z ∷ zs)) none same in
          let head : w ≡ z = cc in
          both_ways (takes t e z) h (subst (λ y. takes t e y ≡ true) head x.0)
    ]

-- all are taken
pub taken_all : (e : List ℤ) (ts : List CodeSlot) (zs : List ℤ) → taken e ts zs ≡ length ts → take_all e ts zs ≡ true
taken_all e [] zs h = refl
taken_all e (t ∷ ts) [] h = refl
taken_all e (t ∷ ts) (z ∷ zs) h =
    elim (cases_Bool (takes t e z)) [
      | inl k ↦ let more = taken_more e t ts z zs k in and_from _ _ k (taken_all (e ++ z ∷ []) ts zs (omega arith))
      | inr k ↦ let none = taken_none e t ts z zs k in absurd (omega arith)
    ]
