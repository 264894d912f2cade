-- Rows of the table and their data, and how far codes reach.
use Rattle.std.proofs.Common.{◌≡◌, ℕ, zero, suc, ◌<◌, ◌≤◌, List, [], ◌∷◌, Some, slice_get, take, true, false, refl, ap, sym, ◌∙◌, inl, inr, arith}
use Rattle.std.proofs.lemmas.List.{take-take}
use Rattle.std.proofs.lemmas.Option.{slice_get_cases}
use Rattle.tz_encode.specs.Encoded.{HasCode, HasForm}
use Rattle.tz_bits.specs.Values.{values_of}
use Rattle.tz_encode.specs.Codes.{IsCode, Reaches, seconds}
use Rattle.tz_table.proofs.Data.{count_of_rows}
use Rattle.tz_table.specs.Rows.{TableRow, row_of, rows_of, same_width}
use Rattle.tz_table.specs.Table.{rows}
use Rattle.tz_table.specs.declared.instruction.Insn.{Insn}
use Rattle.tz_table.specs.declared.units.Width.{Width}
use Rattle.tz_table.specs.declared.units.Width.TheVariants.{Narrow, Wide}

pub data_at : (rs : List TableRow) (k : ℕ) (r : TableRow) → slice_get rs k ≡ Some r → slice_get (rows_of rs) k ≡ Some (row_of r)
data_at [] k r e = cc
data_at (d ∷ rs) zero r e = let same : d ≡ r = cc in ap (λ z. Some (row_of z)) same
data_at (d ∷ rs) (suc k) r e = data_at rs k r e

-- a second halfword is one of 65536
pub seconds_few : (w : Width) (s : ℕ) → s < seconds w → s < 65536
seconds_few Narrow s h = omega arith
seconds_few Wide s h = h

pub row_there : (k : ℕ) → k < 189 → (r : TableRow) × (slice_get rows k ≡ Some r)
row_there k h =
    elim (slice_get_cases rows k).1 [
      | inl x ↦ (x.0, x.2)
      | inr y ↦ absurd (omega (arith, count_of_rows))
    ]

pub same_width_is : (v w : Width) → same_width v w ≡ true → v ≡ w
same_width_is Narrow Narrow e = refl
same_width_is Narrow Wide e = cc
same_width_is Wide Narrow e = cc
same_width_is Wide Wide e = refl

pub same_width_not : (v w : Width) → same_width v w ≡ false → v ≡ w → ⊥
same_width_not Narrow Narrow e q = cc
same_width_not Narrow Wide e q = cc
same_width_not Wide Narrow e q = cc
same_width_not Wide Wide e q = cc

-- ---- a code that has n values of an instruction has fewer

pub reaches_fewer : (r : TableRow) (i : Insn) (m n f s : ℕ) → m ≤ n → Reaches r n i f s → Reaches r m i f s
reaches_fewer r i m n f s h x = record {
  code = x.code;
  means = sym (take-take m n (values_of (r.insn f s)) h) ∙ ap (take m) x.means ∙ take-take m n (values_of i) h;
}

pub code_reaches : (r : TableRow) (i : Insn) (n f s : ℕ) → IsCode r i f s → Reaches r n i f s
code_reaches r i n f s x = record { code = x.code; means = ap (λ j. take n (values_of j)) x.means }

pub code_has_form : (r : TableRow) (i : Insn) → HasCode r i → HasForm r i
code_has_form r i x = (x.0, (x.1.0, code_reaches r i 5 x.0 x.1.0 x.1.1))

-- what no code reaches, no code means, and what is to blame within the form, the row lacks
pub no_code_of : (r : TableRow) (i : Insn) (n : ℕ) → ((f s : ℕ) → Reaches r n i f s → ⊥) → HasCode r i → ⊥
no_code_of r i n h x = h x.0 x.1.0 (code_reaches r i n x.0 x.1.0 x.1.1)

pub no_form_of : (r : TableRow) (i : Insn) (n : ℕ) → n ≤ 5 → ((f s : ℕ) → Reaches r n i f s → ⊥) → HasForm r i → ⊥
no_form_of r i n h never x = never x.0 x.1.0 (reaches_fewer r i n 5 x.0 x.1.0 h x.1.1)
