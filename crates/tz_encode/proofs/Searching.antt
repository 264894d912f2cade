-- One row more in a search through the rows of the table.
use Rattle.std.proofs.Common.{◌≡◌, ℕ, suc, ◌+◌, ◌<◌, List, Option, Some, None, Ok, Err, slice_get, true, false, ap, sym, ◌∙◌, subst, inl, inr, arith}
use Rattle.std.proofs.lemmas.Bool.{cases_lt}
use Rattle.tz_encode.proofs.Places.{code_has_form, no_code_of, no_form_of, same_width_is, same_width_not}
use Rattle.tz_encode.specs.Encoded.{At, HasCode, HasForm}
use Rattle.tz_encode.specs.Search.{Found, NoneBefore}
use Rattle.tz_encode.specs.Codes.{Blames, Tried}
use Rattle.tz_table.specs.Rows.{TableRow, same_width}
use Rattle.tz_table.specs.Table.{rows}
use Rattle.tz_table.specs.declared.instruction.Insn.{Insn}
use Rattle.tz_table.specs.declared.units.Width.{Width}

-- the rows at one place are one
same_place : (rs : List TableRow) (j k : ℕ) (d r : TableRow) → j ≡ k → slice_get rs j ≡ Some d → slice_get rs k ≡ Some r → d ≡ r
same_place rs j k d r e x y = cc

-- what no row before row k has, nor row k where it has the width, no row before row k + 1 has
one_more : (P : TableRow → Type 0) (rs : List TableRow) (w : Width) (k : ℕ) (r : TableRow) → slice_get rs k ≡ Some r → (r.width ≡ w → P r → ⊥) → (j : ℕ) (d : TableRow) → (j < k → At rs w j d → P d → ⊥) → j < k + 1 → At rs w j d → P d → ⊥
one_more P rs w k r here lacks j d before h at x =
    elim (cases_lt j k) [
      | inl lt ↦ before lt at x
      | inr le ↦
          let same : d ≡ r = same_place rs j k d r (omega arith) at.there here in
          lacks (sym (ap (λ z. z.width) same) ∙ at.width) (subst P same x)
    ]

-- ---- what is known of the rows before row k, with row k

-- row k has no code, and lacks the form or the width
pass : (rs : List TableRow) (w : Width) (i : Insn) (k : ℕ) (r : TableRow) (b : Option ℕ) → slice_get rs k ≡ Some r → (r.width ≡ w → HasForm r i → ⊥) → NoneBefore rs w i k b → NoneBefore rs w i (k + 1) b
pass rs w i k r None here lacks h = record {
  no_code = λ j d lt at x. one_more (λ z. HasCode z i) rs w k r here (λ e c. lacks e (code_has_form r i c)) j d (h.no_code j d) lt at x;
  last = λ j d lt at x. one_more (λ z. HasForm z i) rs w k r here lacks j d (h.last j d) lt at x;
}
pass rs w i k r (Some n) here lacks h = record {
  no_code = λ j d lt at x. one_more (λ z. HasCode z i) rs w k r here (λ e c. lacks e (code_has_form r i c)) j d (h.no_code j d) lt at x;
  last = record {
    place = h.last.place;
    row = h.last.row;
    before = omega arith;
    at = h.last.at;
    blames = h.last.blames;
    no_form_after = λ j d after lt at x. one_more (λ z. HasForm z i) rs w k r here lacks j d (h.last.no_form_after j d after) lt at x;
  };
}

-- row k has the form, and blames number n
blame : (rs : List TableRow) (w : Width) (i : Insn) (k : ℕ) (r : TableRow) (b : Option ℕ) (n : ℕ) → slice_get rs k ≡ Some r → r.width ≡ w → Blames r i (5 + n) → NoneBefore rs w i k b → NoneBefore rs w i (k + 1) (Some n)
blame rs w i k r b n here width h before = record {
  no_code = λ j d lt at x. one_more (λ z. HasCode z i) rs w k r here (λ e c. no_code_of r i (suc (5 + n)) h.never c) j d (before.no_code j d) lt at x;
  last = record {
    place = k;
    row = r;
    before = omega arith;
    at = record { there = here; width = width };
    blames = h;
    no_form_after = λ j d after lt at x. omega arith;
  };
}

-- ---- the same of the table, as the search comes to know it

pub other_width : (w : Width) (i : Insn) (k : ℕ) (r : TableRow) (b : Option ℕ) → slice_get rows k ≡ Some r → same_width r.width w ≡ false → Found rows w i k (Err b) → Found rows w i (k + 1) (Err b)
unfolding Found
other_width w i k r b here e h = pass rows w i k r b here (λ q x. same_width_not r.width w e q) h

pub form_missed : (w : Width) (i : Insn) (k : ℕ) (r : TableRow) (b : Option ℕ) (n : ℕ) → slice_get rows k ≡ Some r → n < 5 → Tried r i (Err n) → Found rows w i k (Err b) → Found rows w i (k + 1) (Err b)
unfolding Found Tried
form_missed w i k r b n here lt t h = pass rows w i k r b here (λ q x. no_form_of r i (suc n) (omega arith) t.0.never x) h

pub number_missed : (w : Width) (i : Insn) (k : ℕ) (r : TableRow) (b : Option ℕ) (n m : ℕ) → slice_get rows k ≡ Some r → same_width r.width w ≡ true → Tried r i (Err n) → n ≡ 5 + m → Found rows w i k (Err b) → Found rows w i (k + 1) (Err (Some m))
unfolding Found Tried
number_missed w i k r b n m here e t q h = blame rows w i k r b m here (same_width_is r.width w e) (subst (Blames r i) q t.0) h

pub code_found : (w : Width) (i : Insn) (k : ℕ) (r : TableRow) (b : Option ℕ) (c : ℕ × ℕ) → slice_get rows k ≡ Some r → same_width r.width w ≡ true → Tried r i (Ok c) → Found rows w i k (Err b) → Found rows w i (k + 1) (Ok c)
unfolding Found Tried
code_found w i k r b c here e t h = record {
  place = k;
  row = r;
  at = record { there = here; width = same_width_is r.width w e };
  least = t;
  none_before = h.no_code;
}

-- ---- the ends of the search

pub none_yet : (w : Width) (i : Insn) → Found rows w i 0 (Err None)
unfolding Found
none_yet w i = record { no_code = λ j d lt at x. omega arith; last = λ j d lt at x. omega arith }

-- a code that is found is found among more rows too
pub code_stays : (w : Width) (i : Insn) (k n : ℕ) (c : ℕ × ℕ) → Found rows w i k (Ok c) → Found rows w i n (Ok c)
unfolding Found
code_stays w i k n c h = h
