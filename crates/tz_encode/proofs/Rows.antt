-- What the slots of a row of the table answer.
use Rattle.std.proofs.Common.{◌≡◌, ℕ, zero, suc, Bool, true, false, ◌&&◌, List, [], ◌∷◌, length, get_or, refl, sym, ◌∙◌, ap, arith, subst, inl, inr, ◌<◌, ◌≤◌}
use Rattle.std.specs.Ordering.{int_eq}
use Rattle.std.specs.Prelude.{ℤ, pos, slice_get, Some, None, Err}
use Rattle.std.proofs.lemmas.Bool.{and_parts, cond-false, false_from_ne_true}
use Rattle.std.proofs.lemmas.Option.{slice_get_cases, slice_get_within}
use Rattle.tz_bits.specs.Values.{values_of}
use Rattle.tz_table.specs.Rows.{TableRow, row_of, rows_of}
use Rattle.tz_table.specs.Table.{rows}
use Rattle.tz_table.specs.declared.rows.Row.{Row}
use Rattle.tz_table.specs.declared.instruction.Insn.{Insn}
use Rattle.tz_encode.specs.Codes.{Tried}
use Rattle.tz_encode.specs.Numbers.{answer, sound}
use Rattle.tz_encode.specs.declared.slot.CodeSlot.{CodeSlot}
use Rattle.tz_encode.proofs.Codings.{int_eq-true}
use Rattle.tz_encode.proofs.Answered.{tried}
use Rattle.tz_encode.proofs.Places.{data_at}
use Rattle.tz_table.proofs.Data.{count_of_rows}
use Rattle.tz_encode.specs.declared.shapes.TheConstants.{SHAPES}
use Rattle.tz_encode.proofs.Described.{AllDescribed, all_laid_out, shaped_at}

-- fixed bits and parts lie apart in each row
pub laid_out_all : all_laid_out rows SHAPES ≡ true
unfolding rows
laid_out_all = refl

abbrev all_sound : List (List CodeSlot) → Bool
all_sound [] = true
all_sound (ts ∷ tss) = sound ts && all_sound tss

sound_all : all_sound SHAPES ≡ true
sound_all = refl

sound_in : (tss : List (List CodeSlot)) (k : ℕ) (ts : List CodeSlot) → all_sound tss ≡ true → slice_get tss k ≡ Some ts → sound ts ≡ true
sound_in [] k ts h g = cc
sound_in (us ∷ tss) zero ts h g = let e : us ≡ ts = cc in ap sound (sym e) ∙ (and_parts _ _ h).0
sound_in (us ∷ tss) (suc k) ts h g = sound_in tss k ts (and_parts _ _ h).1 g

pub sound_at : (k : ℕ) (ts : List CodeSlot) → slice_get SHAPES k ≡ Some ts → sound ts ≡ true
sound_at k ts g = sound_in SHAPES k ts sound_all g

count_of_data : (rs : List TableRow) → length (rows_of rs) ≡ length rs
count_of_data [] = refl
count_of_data (r ∷ rs) = ap suc (count_of_data rs)

pub no_row : (rs : List TableRow) (k : ℕ) (r : TableRow) → None ≡ slice_get (rows_of rs) k → slice_get rs k ≡ Some r → ⊥
no_row rs k r n g = let e : None ≡ Some (row_of r) = n ∙ data_at rs k r g in cc

-- the answer of the row's slots is what the row gives
pub row_tried : AllDescribed rows SHAPES → (k : ℕ) (row : Row) (ts : List CodeSlot) (i : Insn) (vs : List ℤ) (r : TableRow) → Some row ≡ slice_get (rows_of rows) k → Some ts ≡ slice_get SHAPES k → vs ≡ values_of i → length vs ≡ 9 → slice_get rows k ≡ Some r → Tried r i (answer row.form row.first_value row.second_value ts vs)
row_tried d k row ts i [] r a b v n g = absurd (omega arith)
row_tried d k row ts i (z ∷ zs) r a b v n g =
    let same : Some row ≡ Some (row_of r) = a ∙ data_at rows k r g in
    let is : row ≡ row_of r = cc in
    let s = shaped_at rows SHAPES k r ts d laid_out_all g (sym b) in
    subst (λ q. Tried r i (answer q.form q.first_value q.second_value ts (z ∷ zs))) (sym is)
    (tried r (row_of r).form ts i z zs s.described s.laid s.eight (sym v) (omega arith))

-- every row has slots
pub row_without_slots : (k : ℕ) (r : TableRow) → slice_get rows k ≡ Some r → None ≡ slice_get SHAPES k → ⊥
row_without_slots k r g n =
    elim (slice_get_cases SHAPES k).1 [
      | inl x ↦ let e : None ≡ Some x.0 = n ∙ x.2 in cc
      | inr y ↦
          let e : 189 ≡ length SHAPES = refl in
          let below : k < length rows = slice_get_within rows k r g in
          omega (arith, count_of_rows)
    ]

-- past the end there is no row
pub past_rows : (k : ℕ) (row : Row) → Some row ≡ slice_get (rows_of rows) k → length rows ≤ k → ⊥
past_rows k row e h =
    let below : k < length (rows_of rows) = slice_get_within (rows_of rows) k row (sym e) in
    omega (arith, count_of_data rows)

-- of another variant the slots answer that place, whatever they are
other_answer : (form first second : ℕ) (ts : List CodeSlot) (z : ℤ) (zs : List ℤ) → (z ≡ pos form → ⊥) → answer form first second ts (z ∷ zs) ≡ Err 0
other_answer form first second ts z zs h =
    cond-false (int_eq (pos form) z) _ _ (false_from_ne_true (int_eq (pos form) z) (λ e. h (sym (int_eq-true (pos form) z e))))

pub other_variant : AllDescribed rows SHAPES → (k : ℕ) (row : Row) (i : Insn) (vs : List ℤ) (r : TableRow) → Some row ≡ slice_get (rows_of rows) k → vs ≡ values_of i → length vs ≡ 9 → slice_get rows k ≡ Some r → (get_or vs 0 (pos 0) ≡ pos row.form → ⊥) → Tried r i (Err 0)
other_variant d k row i [] r a v n g h = absurd (omega arith)
other_variant d k row i (z ∷ zs) r a v n g h =
    elim (slice_get_cases SHAPES k).1 [
      | inl x ↦ subst (Tried r i) (other_answer row.form row.first_value row.second_value x.0 z zs h) (row_tried d k row x.0 i (z ∷ zs) r a (sym x.2) v n g)
      | inr y ↦ absurd (row_without_slots k r g (sym y.1))
    ]
