-- Slots whose values are written again as they were, and that tell their values.
use Rattle.std.proofs.Common.{◌≡◌, ℕ, ◌+◌, Bool, true, ◌&&◌, List, [], ◌∷◌, ◌++◌, length, refl, sym, ◌∙◌, ap, arith, subst}
use Rattle.std.specs.Prelude.{ℤ, ◌==◌, max}
use Rattle.std.proofs.lemmas.Bool.{and_parts}
use Rattle.tz_encode.specs.Limits.{limit_holds}
use Rattle.tz_encode.specs.Numbers.{number_for, value_at, stands_for, takes, take_all, values_in}
use Rattle.tz_encode.specs.Slots.{gathered, held_by, parts_in}
use Rattle.tz_encode.specs.declared.slot.Part.{Part}
use Rattle.tz_encode.specs.declared.slot.CodeSlot.{CodeSlot}
use Rattle.tz_encode.proofs.Codings.{comes_back, back_by, tells, told_by}
use Rattle.tz_encode.proofs.Codings.Back.{same, none}
use Rattle.tz_encode.proofs.Describes.{AtMost, IsWritten, AllWritten, Holds}
use Rattle.tz_encode.proofs.Regaining.{spread, regain, held_gathered, digits_at_most, held_none, none_at_most}

-- the highest bit of a number in the parts, plus 1
abbrev pub top_of : List Part → ℕ
top_of [] = 0
top_of (p ∷ ps) = max (p.shift + p.width) (top_of ps)

pub written_same : (t : CodeSlot) (e : List ℤ) (top : ℕ) (z : ℤ) (f s : ℕ) → spread (parts_in t.parts) top ≡ true → number_for t.coding e z ≡ gathered (parts_in t.parts) f s → stands_for t.coding e (gathered (parts_in t.parts) f s) z ≡ true → IsWritten t e z f s
written_same t e top z f s a b c =
    let r = regain (parts_in t.parts) top f s a in
    record {
      fits = ap (held_by (parts_in t.parts)) b ∙ held_gathered (parts_in t.parts) f s r.digits ∙ sym b;
      stands = subst (λ n. stands_for t.coding e n z ≡ true) (sym b) c;
      least = subst (λ n. AtMost (parts_in t.parts) n f s) (sym b) (digits_at_most (parts_in t.parts) (gathered (parts_in t.parts) f s) f s r.digits);
    }

written_none : (t : CodeSlot) (e : List ℤ) (z : ℤ) (f s : ℕ) → number_for t.coding e z ≡ 0 → stands_for t.coding e 0 z ≡ true → IsWritten t e z f s
written_none t e z f s b c = record {
  fits = ap (held_by (parts_in t.parts)) b ∙ held_none (parts_in t.parts) ∙ sym b;
  stands = subst (λ n. stands_for t.coding e n z ≡ true) (sym b) c;
  least = subst (λ n. AtMost (parts_in t.parts) n f s) (sym b) (none_at_most (parts_in t.parts) f s);
}

-- the slot's value is written again as it was
abbrev pub is_regular : CodeSlot → Bool
is_regular t = spread (parts_in t.parts) (top_of (parts_in t.parts)) && comes_back t.coding (top_of (parts_in t.parts))

pub written : (t : CodeSlot) (e : List ℤ) (f s : ℕ) → is_regular t ≡ true → IsWritten t e (value_at t.coding e (gathered (parts_in t.parts) f s) f s) f s
written t e f s h =
    let x = and_parts (spread (parts_in t.parts) (top_of (parts_in t.parts))) (comes_back t.coding (top_of (parts_in t.parts))) h in
    let r = regain (parts_in t.parts) (top_of (parts_in t.parts)) f s x.0 in
    elim (back_by t.coding e (gathered (parts_in t.parts) f s) f s (top_of (parts_in t.parts)) x.1 r.below) [
      | same b c ↦ written_same t e (top_of (parts_in t.parts)) (value_at t.coding e (gathered (parts_in t.parts) f s) f s) f s x.0 b c
      | none b c ↦ written_none t e (value_at t.coding e (gathered (parts_in t.parts) f s) f s) f s b c
    ]

abbrev pub all_regular : List CodeSlot → Bool
all_regular [] = true
all_regular (t ∷ ts) = is_regular t && all_regular ts

pub all_written : (e : List ℤ) (ts : List CodeSlot) (f s : ℕ) → all_regular ts ≡ true → AllWritten e ts f s
all_written e [] f s h = tt
all_written e (t ∷ ts) f s h =
    let x = and_parts (is_regular t) (all_regular ts) h in
    (written t e f s x.0, all_written (e ++ value_at t.coding e (gathered (parts_in t.parts) f s) f s ∷ []) ts f s x.1)

-- ---- the values of a code that holds the numbers of values which the slots take

pub told : (t : CodeSlot) (e : List ℤ) (z : ℤ) (f s : ℕ) → tells t.coding ≡ true → takes t e z ≡ true → gathered (parts_in t.parts) f s ≡ number_for t.coding e z → value_at t.coding e (gathered (parts_in t.parts) f s) f s ≡ z
told t e z f s h k g =
    let y = and_parts (held_by (parts_in t.parts) (number_for t.coding e z) == number_for t.coding e z && stands_for t.coding e (number_for t.coding e z) z) (limit_holds t.limit e z) k in
    let q = and_parts (held_by (parts_in t.parts) (number_for t.coding e z) == number_for t.coding e z) (stands_for t.coding e (number_for t.coding e z) z) y.0 in
    ap (λ n. value_at t.coding e n f s) g ∙ told_by t.coding e (number_for t.coding e z) z f s h q.1

-- each slot has its value
abbrev pub Tells : List ℤ → List CodeSlot → List ℤ → ℕ → ℕ → Type 0
Tells e [] zs f s = Unit {0}
Tells e (t ∷ ts) [] f s = Unit {0}
Tells e (t ∷ ts) (z ∷ zs) f s = (value_at t.coding e (gathered (parts_in t.parts) f s) f s ≡ z) × Tells (e ++ z ∷ []) ts zs f s

pub values_told : (e : List ℤ) (ts : List CodeSlot) (zs : List ℤ) (f s : ℕ) → length ts ≡ length zs → Tells e ts zs f s → values_in e ts f s ≡ zs
values_told e [] [] f s l h = refl
values_told e [] (z ∷ zs) f s l h = absurd (omega arith)
values_told e (t ∷ ts) [] f s l h = absurd (omega arith)
values_told e (t ∷ ts) (z ∷ zs) f s l h =
    ap (λ v. v ∷ values_in (e ++ v ∷ []) ts f s) h.0 ∙ ap (λ vs. z ∷ vs) (values_told (e ++ z ∷ []) ts zs f s (omega arith) h.1)

abbrev pub all_tell : List CodeSlot → Bool
all_tell [] = true
all_tell (t ∷ ts) = tells t.coding && all_tell ts

pub tell_all : (e : List ℤ) (ts : List CodeSlot) (zs : List ℤ) (f s : ℕ) → all_tell ts ≡ true → take_all e ts zs ≡ true → Holds e ts zs f s → Tells e ts zs f s
tell_all e [] zs f s a k h = tt
tell_all e (t ∷ ts) [] f s a k h = tt
tell_all e (t ∷ ts) (z ∷ zs) f s a k h =
    let x = and_parts (tells t.coding) (all_tell ts) a in
    let y = and_parts (takes t e z) (take_all (e ++ z ∷ []) ts zs) k in
    (told t e z f s x.0 y.0 h.0, tell_all (e ++ z ∷ []) ts zs f s x.1 y.1 h.1)

pub all_told : (e : List ℤ) (ts : List CodeSlot) (zs : List ℤ) (f s : ℕ) → all_tell ts ≡ true → length ts ≡ length zs → take_all e ts zs ≡ true → Holds e ts zs f s → values_in e ts f s ≡ zs
all_told e ts zs f s a l k h = values_told e ts zs f s l (tell_all e ts zs f s a k h)

-- ---- eight values

pub record Eight (zs : List ℤ) : Type 0 where
  pub z1 : ℤ
  pub z2 : ℤ
  pub z3 : ℤ
  pub z4 : ℤ
  pub z5 : ℤ
  pub z6 : ℤ
  pub z7 : ℤ
  pub z8 : ℤ
  pub are : zs ≡ z1 ∷ z2 ∷ z3 ∷ z4 ∷ z5 ∷ z6 ∷ z7 ∷ z8 ∷ []

pub eight : (zs : List ℤ) → 8 ≡ length zs → Eight zs
eight [] h = absurd (omega arith)
eight (a ∷ []) h = absurd (omega arith)
eight (a ∷ b ∷ []) h = absurd (omega arith)
eight (a ∷ b ∷ c ∷ []) h = absurd (omega arith)
eight (a ∷ b ∷ c ∷ d ∷ []) h = absurd (omega arith)
eight (a ∷ b ∷ c ∷ d ∷ e ∷ []) h = absurd (omega arith)
eight (a ∷ b ∷ c ∷ d ∷ e ∷ f ∷ []) h = absurd (omega arith)
eight (a ∷ b ∷ c ∷ d ∷ e ∷ f ∷ g ∷ []) h = absurd (omega arith)
eight (a ∷ b ∷ c ∷ d ∷ e ∷ f ∷ g ∷ i ∷ []) h = record { z1 = a; z2 = b; z3 = c; z4 = d; z5 = e; z6 = f; z7 = g; z8 = i; are = refl }
eight (a ∷ b ∷ c ∷ d ∷ e ∷ f ∷ g ∷ i ∷ j ∷ zs) h = absurd (omega arith)
