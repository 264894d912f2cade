-- What is shown of each row and its slots: they tell what a code of the row means and whether it is in the
-- row, and whatever they took so far can be filled up.
use Rattle.std.proofs.Common.{◌≡◌, ℕ, zero, suc, ◌<◌, true, false, not, List, [], ◌∷◌, length, sym, ◌∙◌, ap, inl, inr}
use Rattle.std.specs.Prelude.{ℤ, pos}
use Rattle.std.specs.List.{list_all}
use Rattle.std.proofs.lemmas.Bool.{and_from, cond-true, cond-false, cases_Bool, both_ways}
use Rattle.tz_bits.specs.Values.{values_of}
use Rattle.tz_table.specs.Patterns.{Field, has, in_cube, has_any}
use Rattle.tz_table.specs.Rows.{TableRow, holds, keeps}
use Rattle.tz_table.proofs.Cubes.{InCube-from, in_cube-from, inside-from, has-from_InCube}
use Rattle.tz_table.proofs.Reduction.{inside, cube_of}
use Rattle.tz_table.proofs.Scans.{holds_parts}
use Rattle.tz_encode.specs.Codes.{InRow}
use Rattle.tz_encode.specs.Numbers.{take_all, values_in}
use Rattle.tz_encode.specs.declared.coding.Coding.TheVariants.{Is}
use Rattle.tz_encode.specs.declared.limit.Limit.TheVariants.{Any}
use Rattle.tz_encode.specs.declared.slot.Parts.TheVariants.{Zero}
use Rattle.tz_encode.specs.declared.slot.CodeSlot.{CodeSlot}
use Rattle.tz_encode.proofs.Describes.{limits_in, Fillable, Holds}
use Rattle.tz_encode.proofs.Places.{seconds_few}
use Rattle.tz_encode.proofs.Slots.{stands_alone, fill_alone}
use Rattle.tz_encode.specs.declared.shapes.TheConstants.{SHAPES}

abbrev pub nth : List (List CodeSlot) → ℕ → List CodeSlot
nth [] k = []
nth (ts ∷ tss) zero = ts
nth (ts ∷ tss) (suc k) = nth tss k

-- the slots of row k
abbrev pub shape : ℕ → List CodeSlot
shape k = nth SHAPES k

abbrev pub slot_in : List CodeSlot → ℕ → CodeSlot
slot_in [] k = record { coding = Is (pos 0); limit = Any; parts = Zero }
slot_in (t ∷ ts) zero = t
slot_in (t ∷ ts) (suc k) = slot_in ts k

-- slot j of row k
abbrev pub slot : ℕ → ℕ → CodeSlot
slot k j = slot_in (shape k) j

pub record Reads (r : TableRow) (form : ℕ) (ts : List CodeSlot) : Type 0 where
  pub values : (f s : ℕ) → InRow r f s → values_of (r.insn f s) ≡ pos form ∷ values_in (pos form ∷ []) ts f s
  pub kept : (f s : ℕ) → InRow r f s → limits_in (pos form ∷ []) ts f s ≡ true
  pub held : (zs : List ℤ) (f s : ℕ) → f < 65536 → s < 65536 → in_cube r.pattern.cube f s ≡ true → length ts ≡ length zs → take_all (pos form ∷ []) ts zs ≡ true → Holds (pos form ∷ []) ts zs f s → limits_in (pos form ∷ []) ts f s ≡ true → holds r f s ≡ true
  pub fills : Fillable (pos form ∷ []) ts

-- ---- the limits of a row

pub keeps_from : (r : TableRow) (f s : ℕ) → holds r f s ≡ true → keeps r f s ≡ true
keeps_from r f s h =
    let x = holds_parts r f s h in
    cond-false (has_any r.pattern.excepts f s) false (r.limits f s) x.2 ∙ x.0

pub holds_from : (r : TableRow) (f s : ℕ) → in_cube r.pattern.cube f s ≡ true → keeps r f s ≡ true → holds r f s ≡ true
holds_from r f s c k =
    elim (cases_Bool (has_any r.pattern.excepts f s)) [
      | inl x ↦ absurd (both_ways (keeps r f s) (cond-true (has_any r.pattern.excepts f s) false (r.limits f s) x) k)
      | inr x ↦
          let limits : r.limits f s ≡ true = sym (cond-false (has_any r.pattern.excepts f s) false (r.limits f s) x) ∙ k in
          and_from _ _ limits (and_from _ _ c (ap not x))
    ]

-- a fixed field of a row
pub fixed_field : (r : TableRow) (x : Field) (f s : ℕ) → inside r.pattern.cube (cube_of x) ≡ true → in_cube r.pattern.cube f s ≡ true → has x f s ≡ true
fixed_field r x f s i c = has-from_InCube x f s (inside-from r.pattern.cube (cube_of x) f s i (InCube-from r.pattern.cube f s c))

-- the codes of a row have its fixed bits
pub cube_of_row : (r : TableRow) (f s : ℕ) → InRow r f s → in_cube r.pattern.cube f s ≡ true
cube_of_row r f s c = in_cube-from r.pattern.cube f s (holds_parts r f s c.held).1

-- a row whose limits are those of its slots, for codes with its fixed bits
pub read : (r : TableRow) (form : ℕ) (ts : List CodeSlot) → ((f s : ℕ) → InRow r f s → values_of (r.insn f s) ≡ pos form ∷ values_in (pos form ∷ []) ts f s) → ((f s : ℕ) → f < 65536 → s < 65536 → in_cube r.pattern.cube f s ≡ true → keeps r f s ≡ limits_in (pos form ∷ []) ts f s) → Fillable (pos form ∷ []) ts → Reads r form ts
read r form ts v l t = record {
  values = v;
  kept = λ f s c. sym (l f s c.first_fits (seconds_few r.width s c.second_fits) (cube_of_row r f s c)) ∙ keeps_from r f s c.held;
  held = λ zs f s a b c _ _ _ k. holds_from r f s c (l f s a b c ∙ k);
  fills = t;
}

-- a row where this holds of all numbers
pub read_all : (r : TableRow) (form : ℕ) (ts : List CodeSlot) → ((f s : ℕ) → values_of (r.insn f s) ≡ pos form ∷ values_in (pos form ∷ []) ts f s) → ((f s : ℕ) → keeps r f s ≡ limits_in (pos form ∷ []) ts f s) → Fillable (pos form ∷ []) ts → Reads r form ts
read_all r form ts v l t = read r form ts (λ f s c. v f s) (λ f s a b c. l f s) t

-- such a row, each slot of which takes something whatever stands before it
pub read_alone : (r : TableRow) (form : ℕ) (ts : List CodeSlot) → ((f s : ℕ) → values_of (r.insn f s) ≡ pos form ∷ values_in (pos form ∷ []) ts f s) → ((f s : ℕ) → keeps r f s ≡ limits_in (pos form ∷ []) ts f s) → list_all stands_alone ts ≡ true → Reads r form ts
read_alone r form ts v l t = read_all r form ts v l (fill_alone ts (pos form ∷ []) t)
