-- Slots that take a value whatever stands before them.
use Rattle.std.proofs.Common.{◌≡◌, ℕ, Bool, true, false, ◌&&◌, List, [], ◌∷◌, ◌++◌, refl, ◌∙◌, ap, inl, inr}
use Rattle.std.specs.Prelude.{ℤ, pos, ◌==◌, ◌||◌, if◌then◌else◌}
use Rattle.std.specs.List.{list_all}
use Rattle.std.proofs.lemmas.Bool.{and_parts, and_from, eqb-true, or_cases, cases_Bool, MatchBool-at_true, MatchBool-at_false}
use Rattle.std.specs.Bool.{MatchBool}
use Rattle.tz_encode.specs.Limits.{allows, limit_holds, entry}
use Rattle.tz_encode.specs.Numbers.{takes, number_for, stands_for}
use Rattle.tz_encode.specs.Slots.{held_by, parts_in}
use Rattle.tz_encode.specs.declared.coding.Coding.{Coding}
use Rattle.tz_encode.specs.declared.coding.Coding.TheVariants.{Is, Same, Natural, Above, Minus, Signed, Sign, Far, Right, Kind, Amount, UpTo, Unlisted, Again}
use Rattle.tz_encode.specs.declared.limit.Limit.{Limit}
use Rattle.tz_encode.specs.declared.limit.Limit.TheVariants as limits
use Rattle.tz_encode.specs.declared.slot.CodeSlot.{CodeSlot}
use Rattle.tz_encode.specs.declared.slot.Parts.{Parts}
use Rattle.tz_encode.specs.declared.slot.Parts.TheVariants as counts
use Rattle.tz_encode.proofs.Codings.{int_eq-self}
use Rattle.tz_encode.proofs.Describes.{Fillable}

-- ---- slots that look at no earlier value

abbrev pub coded_alone : Coding → Bool
coded_alone (Same j) = false
coded_alone Amount = false
coded_alone UpTo = false
coded_alone Again = false
coded_alone (Is c) = true
coded_alone Natural = true
coded_alone (Above m) = true
coded_alone Minus = true
coded_alone (Signed half) = true
coded_alone Sign = true
coded_alone Far = true
coded_alone Right = true
coded_alone Kind = true
coded_alone Unlisted = true

abbrev pub limited_alone : Limit → Bool
limited_alone limits.Any = true
limited_alone (limits.Below m) = true
limited_alone limits.NonZero = true
limited_alone limits.Plain = true
limited_alone limits.NotPc = true
limited_alone limits.NotSp = true
limited_alone limits.Constant = true
limited_alone limits.Special = true
limited_alone _ = false

number_alone : (c : Coding) (e : List ℤ) (z : ℤ) → coded_alone c ≡ true → number_for c e z ≡ number_for c [] z
number_alone (Same j) e z h = cc
number_alone Amount e z h = cc
number_alone UpTo e z h = cc
number_alone Again e z h = cc
number_alone (Is c) e z h = refl
number_alone Natural e z h = refl
number_alone (Above m) e z h = refl
number_alone Minus e z h = refl
number_alone (Signed half) e z h = refl
number_alone Sign e z h = refl
number_alone Far e z h = refl
number_alone Right e z h = refl
number_alone Kind e z h = refl
number_alone Unlisted e z h = refl

code_alone : (c : Coding) (e : List ℤ) (n : ℕ) (z : ℤ) → coded_alone c ≡ true → stands_for c e n z ≡ stands_for c [] n z
code_alone (Same j) e n z h = cc
code_alone Amount e n z h = refl
code_alone UpTo e n z h = cc
code_alone Again e n z h = refl
code_alone (Is c) e n z h = refl
code_alone Natural e n z h = refl
code_alone (Above m) e n z h = refl
code_alone Minus e n z h = refl
code_alone (Signed half) e n z h = refl
code_alone Sign e n z h = refl
code_alone Far e n z h = refl
code_alone Right e n z h = refl
code_alone Kind e n z h = refl
code_alone Unlisted e n z h = refl

allows_alone : (l : Limit) (e : List ℤ) (n : ℕ) → limited_alone l ≡ true → allows l e n ≡ allows l [] n
allows_alone limits.Any e n h = refl
allows_alone (limits.Below m) e n h = refl
allows_alone limits.NonZero e n h = refl
allows_alone limits.Plain e n h = refl
allows_alone limits.NotPc e n h = refl
allows_alone limits.NotSp e n h = refl
allows_alone limits.Constant e n h = refl
allows_alone limits.Special e n h = refl
allows_alone _ e n h = cc

takes_alone : (t : CodeSlot) (e : List ℤ) (z : ℤ) → coded_alone t.coding ≡ true → limited_alone t.limit ≡ true → takes t e z ≡ takes t [] z
takes_alone t e z c l =
    ap (λ n. (held_by (parts_in t.parts) n == n) && stands_for t.coding e n z && limit_holds t.limit e z) (number_alone t.coding e z c)
    ∙ ap (λ b. (held_by (parts_in t.parts) (number_for t.coding [] z) == number_for t.coding [] z) && b && limit_holds t.limit e z) (code_alone t.coding e (number_for t.coding [] z) z c)
    ∙ ap (λ b. (held_by (parts_in t.parts) (number_for t.coding [] z) == number_for t.coding [] z) && stands_for t.coding [] (number_for t.coding [] z) z && b) (allows_alone t.limit e _ l)

-- a value that such a slot takes, in all rows of the table
abbrev pub value_of_coding : Coding → ℤ
value_of_coding (Is c) = c
value_of_coding (Above m) = pos m
value_of_coding Right = pos 1
value_of_coding _ = pos 0

abbrev pub usual : CodeSlot → ℤ
usual t = if takes t [] (value_of_coding t.coding) then value_of_coding t.coding else pos 1

abbrev pub alone : CodeSlot → Bool
alone t = coded_alone t.coding && limited_alone t.limit && takes t [] (usual t)

-- ---- slots with the value of another, which have no bits

abbrev pub is_same : Coding → Bool
is_same (Same j) = true
is_same _ = false

abbrev pub is_any : Limit → Bool
is_any limits.Any = true
is_any _ = false

abbrev pub is_zero : Parts → Bool
is_zero counts.Zero = true
is_zero _ = false

abbrev pub repeats : CodeSlot → Bool
repeats t = is_same t.coding && is_any t.limit && is_zero t.parts

repeated : (c : Coding) (l : Limit) (p : Parts) (e : List ℤ) → is_same c ≡ true → is_any l ≡ true → is_zero p ≡ true → (z : ℤ) × (takes (record { coding = c; limit = l; parts = p }) e z ≡ true)
repeated (Same j) limits.Any counts.Zero e a b d = (entry e j, and_from _ _ (int_eq-self (entry e j)) refl)
repeated (Same j) limits.Any _ e a b d = cc
repeated (Same j) _ p e a b d = cc
repeated _ l p e a b d = cc

-- ---- a slot that takes something whatever stands before it

abbrev pub stands_alone : CodeSlot → Bool
stands_alone t = alone t || repeats t

pub taken_alone : (t : CodeSlot) (e : List ℤ) → stands_alone t ≡ true → (z : ℤ) × (takes t e z ≡ true)
taken_alone t e h =
    elim (or_cases (alone t) (repeats t) h) [
      | inl a ↦
          let x = and_parts (coded_alone t.coding && limited_alone t.limit) (takes t [] (usual t)) a in
          let y = and_parts (coded_alone t.coding) (limited_alone t.limit) x.0 in
          (usual t, takes_alone t e (usual t) y.0 y.1 ∙ x.1)
      | inr b ↦
          let x = and_parts (is_same t.coding && is_any t.limit) (is_zero t.parts) b in
          let y = and_parts (is_same t.coding) (is_any t.limit) x.0 in
          repeated t.coding t.limit t.parts e y.0 y.1 x.1
    ]

-- all slots are so
pub fill_alone : (ts : List CodeSlot) (e : List ℤ) → list_all stands_alone ts ≡ true → Fillable e ts
fill_alone [] e h = tt
fill_alone (t ∷ ts) e h =
    let x = and_parts (stands_alone t) (list_all stands_alone ts) h in
    (taken_alone t e x.0, λ z k. fill_alone ts (e ++ z ∷ []) x.1)

-- ---- rows of which some slots look at earlier values

-- what is left to show: what such a slot takes
abbrev pub Needs : List ℤ → List CodeSlot → Type 0
Needs e [] = Unit {0}
Needs e (t ∷ ts) = MatchBool (stands_alone t) ((z : ℤ) → takes t e z ≡ true → Needs (e ++ z ∷ []) ts) (((z : ℤ) × (takes t e z ≡ true)) × ((z : ℤ) → takes t e z ≡ true → Needs (e ++ z ∷ []) ts))

pub fill : (ts : List CodeSlot) (e : List ℤ) → Needs e ts → Fillable e ts
fill [] e n = tt
fill (t ∷ ts) e n =
    let Rest : Type 0 = (z : ℤ) → takes t e z ≡ true → Needs (e ++ z ∷ []) ts in
    let One : Type 0 = (z : ℤ) × (takes t e z ≡ true) in
    elim (cases_Bool (stands_alone t)) [
      | inl a ↦ (taken_alone t e a, λ z h. fill ts (e ++ z ∷ []) (MatchBool-at_true Rest (One × Rest) a n z h))
      | inr a ↦ let m : One × Rest = MatchBool-at_false Rest (One × Rest) a n in (m.0, λ z h. fill ts (e ++ z ∷ []) (m.1 z h))
    ]

-- ---- what a value that was taken is

-- the limit of a value that a slot took
pub limit_taken : (t : CodeSlot) (e : List ℤ) (z : ℤ) → takes t e z ≡ true → limit_holds t.limit e z ≡ true
limit_taken t e z h = (and_parts (held_by (parts_in t.parts) (number_for t.coding e z) == number_for t.coding e z && stands_for t.coding e (number_for t.coding e z) z) (limit_holds t.limit e z) h).1

-- and its bits
pub bits_taken : (t : CodeSlot) (e : List ℤ) (z : ℤ) → takes t e z ≡ true → held_by (parts_in t.parts) (number_for t.coding e z) ≡ number_for t.coding e z
bits_taken t e z h =
    let x = and_parts (held_by (parts_in t.parts) (number_for t.coding e z) == number_for t.coding e z && stands_for t.coding e (number_for t.coding e z) z) (limit_holds t.limit e z) h in
    eqb-true _ _ (and_parts (held_by (parts_in t.parts) (number_for t.coding e z) == number_for t.coding e z) (stands_for t.coding e (number_for t.coding e z) z) x.0).0

pub stood_for : (t : CodeSlot) (e : List ℤ) (z : ℤ) → takes t e z ≡ true → stands_for t.coding e (number_for t.coding e z) z ≡ true
stood_for t e z h =
    let x = and_parts (held_by (parts_in t.parts) (number_for t.coding e z) == number_for t.coding e z && stands_for t.coding e (number_for t.coding e z) z) (limit_holds t.limit e z) h in
    (and_parts (held_by (parts_in t.parts) (number_for t.coding e z) == number_for t.coding e z) (stands_for t.coding e (number_for t.coding e z) z) x.0).1
