-- Slots that are written again, or tell their value, beside what another place has.
use Rattle.std.proofs.Common.{◌≡◌, ℕ, ◌+◌, ◌-◌, ◌<◌, ◌≤◌, Bool, true, false, not, ◌&&◌, List, refl, sym, ◌∙◌, ap, arith, subst, inl, inr}
use Rattle.std.specs.Prelude.{ℤ, pos, nat_abs, ◌==◌, nat_lt, if◌then◌else◌}
use Rattle.std.specs.Ordering.{int_eq}
use Rattle.std.proofs.lemmas.Bool.{and_parts, cases_Bool, cond-true, cond-false, eqb-true, eqb-false, ltb-true}
use Rattle.tz_table.specs.Fields.{bits}
use Rattle.tz_table.specs.Limits.{is_listed, not_zero}
use Rattle.tz_bits.specs.Values.{bool_number}
use Rattle.tz_encode.specs.Limits.{number_at, limit_holds}
use Rattle.tz_encode.specs.Numbers.{value_at, takes}
use Rattle.tz_encode.specs.Slots.{gathered, parts_in}
use Rattle.tz_encode.specs.declared.coding.Coding.TheVariants.{UpTo, Unlisted, Again}
use Rattle.tz_encode.specs.declared.limit.Limit.{Limit}
use Rattle.tz_encode.specs.declared.limit.Limit.TheVariants.{LoadList}
use Rattle.tz_encode.specs.declared.slot.Parts.{Parts}
use Rattle.tz_encode.specs.declared.slot.Parts.TheVariants.{Zero}
use Rattle.tz_encode.specs.declared.slot.CodeSlot.{CodeSlot}
use Rattle.tz_encode.proofs.Codings.{int_eq-self, int_eq-true}
use Rattle.tz_encode.proofs.Describes.{IsWritten}
use Rattle.tz_encode.proofs.Regaining.{spread}
use Rattle.tz_encode.proofs.Telling.{top_of, written_same}

width_back : (low high : ℕ) → low ≤ high → low + (high + 1 - low) - 1 ≡ high
width_back low high h = omega arith

abbrev pub up_to_slot : Limit → Parts → CodeSlot
up_to_slot l ps = record { coding = UpTo; limit = l; parts = ps }

-- a width is written again where its highest bit isn't below its lowest
pub up_to_written : (l : Limit) (ps : Parts) (e : List ℤ) (f s : ℕ) → spread (parts_in ps) (top_of (parts_in ps)) ≡ true → number_at e 7 ≤ gathered (parts_in ps) f s → IsWritten (up_to_slot l ps) e (value_at UpTo e (gathered (parts_in ps) f s) f s) f s
up_to_written l ps e f s a h =
    written_same (up_to_slot l ps) e (top_of (parts_in ps)) (value_at UpTo e (gathered (parts_in ps) f s) f s) f s a (width_back (number_at e 7) (gathered (parts_in ps) f s) h) (int_eq-self (value_at UpTo e (gathered (parts_in ps) f s) f s))

abbrev pub again_slot : Limit → Parts → CodeSlot
again_slot l ps = record { coding = Again; limit = l; parts = ps }

-- a register that stands twice is written again where both are the same
pub again_written : (l : Limit) (ps : Parts) (e : List ℤ) (f s : ℕ) → spread (parts_in ps) (top_of (parts_in ps)) ≡ true → number_at e 6 ≡ gathered (parts_in ps) f s → IsWritten (again_slot l ps) e (value_at Again e (gathered (parts_in ps) f s) f s) f s
again_written l ps e f s a h = written_same (again_slot l ps) e (top_of (parts_in ps)) (pos 0) f s a h refl

abbrev pub unlisted_slot : Limit → CodeSlot
unlisted_slot l = record { coding = Unlisted; limit = l; parts = Zero }

rewritten : (a b c d n m : ℕ) → a ≡ b → c ≡ d → n ≡ m → (if a == 1 then not (is_listed n c) else is_listed n c) ≡ true → (if b == 1 then not (is_listed m d) else is_listed m d) ≡ true
rewritten a b c d n m p q r h =
    subst (λ x. (if x == 1 then not (is_listed m d) else is_listed m d) ≡ true) p
    (subst (λ x. (if a == 1 then not (is_listed m x) else is_listed m x) ≡ true) q
    (subst (λ x. (if a == 1 then not (is_listed x c) else is_listed x c) ≡ true) r h))

told_so : (y : ℕ) (b : Bool) → y < 2 → (if y == 1 then not b else b) ≡ true → bool_number (not b) ≡ y
told_so y true lt h =
    elim (cases_Bool (y == 1)) [
      | inl k ↦ let x = sym (cond-true (y == 1) false true k) ∙ h in cc
      | inr k ↦ let d = eqb-false y 1 k in omega arith
    ]
told_so y false lt h =
    elim (cases_Bool (y == 1)) [
      | inl k ↦ sym (eqb-true y 1 k)
      | inr k ↦ let x = sym (cond-false (y == 1) true false k) ∙ h in cc
    ]

-- whether a base is listed is told by the list
pub unlisted_told : (l : Limit) (d e : List ℤ) (y : ℤ) (t : CodeSlot) (z : ℤ) (f s : ℕ) → t.limit ≡ LoadList 2 5 → number_at e 2 ≡ nat_abs y → number_at e 5 ≡ bits f 8 3 → nat_abs z ≡ bits f 0 8 → takes (unlisted_slot l) d y ≡ true → takes t e z ≡ true → value_at Unlisted d 0 f s ≡ y
unlisted_told l d e y t z f s same two five list a b =
    let p = and_parts (nat_lt (nat_abs y) 2 && int_eq (pos (nat_abs y)) y) (limit_holds l d y) a in
    let q = and_parts (nat_lt (nat_abs y) 2) (int_eq (pos (nat_abs y)) y) p.0 in
    let u = and_parts _ (limit_holds t.limit e z) b in
    let kept : limit_holds (LoadList 2 5) e z ≡ true = subst (λ x. limit_holds x e z ≡ true) same u.1 in
    let v = and_parts (not_zero (nat_abs z)) _ kept in
    ap pos (told_so (nat_abs y) (is_listed (bits f 0 8) (bits f 8 3)) (ltb-true _ _ q.0) (rewritten (number_at e 2) (nat_abs y) (number_at e 5) (bits f 8 3) (nat_abs z) (bits f 0 8) two five list v.1))
    ∙ int_eq-true (pos (nat_abs y)) y q.1
