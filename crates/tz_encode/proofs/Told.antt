-- The code that is told of some values is that of each instruction which has them.
use Rattle.std.proofs.Common.{◌≡◌, ◌⊎◌, inl, inr, ℕ, zero, suc, ◌+◌, ◌*◌, ◌/◌, ◌%◌, ◌^◌, ◌<◌, ◌≤◌, Bool, true, false, ◌&&◌, List, [], ◌∷◌, Option, Some, None, Ok, option_map, slice_get, refl, sym, ap, ◌∙◌, subst, arith, ℤ}
use Rattle.std.specs.Prelude.{nat_lt}
use Rattle.std.specs.Cmp.Lexicographic.{pointwise}
use Rattle.std.specs.Option.{option_or}
use Rattle.std.specs.Ordering.{int_eq}
use Rattle.std.proofs.lemmas.Bool.{and_from, and_parts, cases_lt, cases_order, lt-ltb, ltb-true}
use Rattle.std.proofs.lemmas.Bool.Decides.{Decides-int_eq}
use Rattle.std.proofs.lemmas.Slice.Eq.{slice_eq-Decides}
use Rattle.tz_encode.proofs.Places.{seconds_few, same_width_is, same_width_not}
use Rattle.tz_encode.specs.Encoded.{At, EncodedIn, FirstCode, HasCode, code_of}
use Rattle.tz_encode.specs.Told.{first_from, halves, is_code, least_code, code_where, first_code, code_with}
use Rattle.tz_bits.proofs.Back.{same_values}
use Rattle.tz_bits.specs.Values.{values_of}
use Rattle.tz_encode.specs.Codes.{InRow, IsCode, IsLeastCode, seconds}
use Rattle.tz_table.specs.Rows.{TableRow, holds, same_width}
use Rattle.tz_table.specs.Table.{rows}
use Rattle.tz_table.specs.declared.instruction.Insn.{Insn}
use Rattle.tz_table.specs.declared.units.Code.{Code}
use Rattle.tz_table.specs.declared.units.Width.{Width}
use Rattle.tz_table.specs.declared.units.Width.TheVariants.{Narrow, Wide}

-- ---- the first number for which a test holds

pub record IsFirst (test : ℕ → Bool) (k n m : ℕ) : Type 0 where
  pub from : k ≤ m
  pub below : m < k + n
  pub holds : test m ≡ true
  pub before : (j : ℕ) → k ≤ j → j < m → test j ≡ false

first_is : (test : ℕ → Bool) (k n m : ℕ) → first_from test k n ≡ Some m → IsFirst test k n m
unfolding first_from
first_is test k zero m e = cc
first_is test k (suc n) m e = by_test _ refl (first_is test (k + 1) n m)
  where
    by_test : (b : Bool) → test k ≡ b → (first_from test (k + 1) n ≡ Some m → IsFirst test (k + 1) n m) → IsFirst test k (suc n) m
    by_test true h go =
        let same : k ≡ m = let found = rw h at e in cc in
        record { from = omega arith; below = omega arith; holds = subst (λ j. test j ≡ true) same h; before = λ j l u. absurd (omega arith) }
    by_test false h go =
        let later = go (rw h at e) in
        let from = later.from in
        let below = later.below in
        record {
          from = omega arith;
          below = omega arith;
          holds = later.holds;
          before = λ j l u. elim (cases_lt k j) [
            | inl after ↦ later.before j (omega arith) u
            | inr here ↦ let same : k ≡ j = omega arith in subst (λ x. test x ≡ false) same h
          ];
        }

first_none : (test : ℕ → Bool) (k n : ℕ) → first_from test k n ≡ None → (j : ℕ) → k ≤ j → j < k + n → test j ≡ false
unfolding first_from
first_none test k zero e j l u = absurd (omega arith)
first_none test k (suc n) e j l u = by_test _ refl (λ f a b. first_none test (k + 1) n f j a b)
  where
    by_test : (b : Bool) → test k ≡ b → (first_from test (k + 1) n ≡ None → k + 1 ≤ j → j < k + 1 + n → test j ≡ false) → test j ≡ false
    by_test true h go = let found = rw h at e in cc
    by_test false h go = elim (cases_lt k j) [
      | inl after ↦ go (rw h at e) (omega arith) (omega arith)
      | inr here ↦ let same : k ≡ j = omega arith in subst (λ x. test x ≡ false) same h
    ]

-- ---- codes of a row

pub same_list : (xs ys : List ℤ) → pointwise int_eq xs ys ≡ true → xs ≡ ys
same_list xs ys h = (slice_eq-Decides Decides-int_eq xs ys (pointwise int_eq xs ys) refl).0 h

pub list_same : (xs ys : List ℤ) → xs ≡ ys → pointwise int_eq xs ys ≡ true
list_same xs ys h = (slice_eq-Decides Decides-int_eq xs ys (pointwise int_eq xs ys) refl).1 h

-- a code of a row by its number
pub record Held (r : TableRow) (e : List ℤ) (n : ℕ) : Type 0 where
  pub code : InRow r (n / 65536) (n % 65536)
  pub means : values_of (r.insn (n / 65536) (n % 65536)) ≡ e

held_of : (r : TableRow) (e : List ℤ) (n : ℕ) → n < 2 ^ 32 → is_code r e (n / 65536) (n % 65536) ≡ true → Held r e n
held_of r e n l h =
    let parts = and_parts (nat_lt (n % 65536) (seconds r.width)) (holds r (n / 65536) (n % 65536) && pointwise int_eq (values_of (r.insn (n / 65536) (n % 65536))) e) h in
    let more = and_parts (holds r (n / 65536) (n % 65536)) (pointwise int_eq (values_of (r.insn (n / 65536) (n % 65536))) e) parts.1 in
    record {
      code = record { first_fits = omega arith; second_fits = ltb-true (n % 65536) (seconds r.width) parts.0; held = more.0 };
      means = same_list (values_of (r.insn (n / 65536) (n % 65536))) e more.1;
    }

code_of_held : (r : TableRow) (i : Insn) (n : ℕ) → Held r (values_of i) n → IsCode r i (n / 65536) (n % 65536)
code_of_held r i n h = record { code = h.code; means = same_values (r.insn (n / 65536) (n % 65536)) i h.means }

-- the number of a code
is_code_of : (r : TableRow) (i : Insn) (f s : ℕ) → IsCode r i f s → is_code r (values_of i) f s ≡ true
is_code_of r i f s h =
    and_from (nat_lt s (seconds r.width)) (holds r f s && pointwise int_eq (values_of (r.insn f s)) (values_of i)) (lt-ltb s (seconds r.width) h.code.second_fits)
    (and_from (holds r f s) (pointwise int_eq (values_of (r.insn f s)) (values_of i)) h.code.held (list_same (values_of (r.insn f s)) (values_of i) (ap values_of h.means)))

first_half : (f s : ℕ) → s < 65536 → (f * 65536 + s) / 65536 ≡ f
first_half f s h = omega arith

second_half : (f s : ℕ) → s < 65536 → (f * 65536 + s) % 65536 ≡ s
second_half f s h = omega arith

is_code_at : (r : TableRow) (i : Insn) (f s : ℕ) → IsCode r i f s → is_code r (values_of i) ((f * 65536 + s) / 65536) ((f * 65536 + s) % 65536) ≡ true
is_code_at r i f s h =
    let few = seconds_few r.width s h.code.second_fits in
    subst (λ (x : ℕ). is_code r (values_of i) x ((f * 65536 + s) % 65536) ≡ true) (sym (first_half f s few))
    (subst (λ (x : ℕ). is_code r (values_of i) f x ≡ true) (sym (second_half f s few)) (is_code_of r i f s h))

-- the test of a row
abbrev tests : TableRow → List ℤ → ℕ → Bool
tests r e n = is_code r e (n / 65536) (n % 65536)

least_told : (r : TableRow) (i : Insn) (n : ℕ) → IsFirst (tests r (values_of i)) 0 (2 ^ 32) n → IsLeastCode r i (n / 65536) (n % 65536)
least_told r i n h =
    let below = h.below in
    record {
      code = code_of_held r i n (held_of r (values_of i) n (omega arith) h.holds);
      least = λ g t x. elim (cases_lt (g * 65536 + t) n) [
        | inl less ↦ let no = h.before (g * 65536 + t) (omega arith) less in let yes = is_code_at r i g t x in cc
        | inr more ↦ omega arith
      ];
    }

row_told : (r : TableRow) (i : Insn) (c : ℕ × ℕ) → least_code r (values_of i) ≡ Some c → IsLeastCode r i c.0 c.1
unfolding least_code
row_told r i c e = by_first (first_from (tests r (values_of i)) 0 (2 ^ 32)) refl e
  where
    by_first : (o : Option ℕ) → first_from (tests r (values_of i)) 0 (2 ^ 32) ≡ o → option_map halves o ≡ Some c → IsLeastCode r i c.0 c.1
    by_first None f g = cc
    by_first (Some n) f g =
        let same : halves n ≡ c = cc in
        subst (λ (x : ℕ × ℕ). IsLeastCode r i x.0 x.1) same (least_told r i n (first_is (tests r (values_of i)) 0 (2 ^ 32) n f))

row_untold : (r : TableRow) (i : Insn) → least_code r (values_of i) ≡ None → HasCode r i → ⊥
unfolding least_code
row_untold r i e x = by_first (first_from (tests r (values_of i)) 0 (2 ^ 32)) refl e
  where
    by_first : (o : Option ℕ) → first_from (tests r (values_of i)) 0 (2 ^ 32) ≡ o → option_map halves o ≡ None → ⊥
    by_first (Some n) f g = cc
    by_first None f g =
        let first = x.1.1.code.first_fits in
        let few = seconds_few r.width x.1.0 x.1.1.code.second_fits in
        let no = first_none (tests r (values_of i)) 0 (2 ^ 32) f (x.0 * 65536 + x.1.0) (omega arith) (omega arith) in
        let yes = is_code_at r i x.0 x.1.0 x.1.1 in cc

-- a code that is told is one of an instruction with the values
row_means : (r : TableRow) (e : List ℤ) (c : ℕ × ℕ) → least_code r e ≡ Some c → (i : Insn) × (values_of i ≡ e)
unfolding least_code
row_means r e c h = by_first (first_from (tests r e) 0 (2 ^ 32)) refl h
  where
    by_first : (o : Option ℕ) → first_from (tests r e) 0 (2 ^ 32) ≡ o → option_map halves o ≡ Some c → (i : Insn) × (values_of i ≡ e)
    by_first None f g = cc
    by_first (Some n) f g =
        let first = first_is (tests r e) 0 (2 ^ 32) n f in
        let below = first.below in
        (r.insn (n / 65536) (n % 65536), (held_of r e n (omega arith) first.holds).means)

-- ---- rows, from the first on

behind : (r : TableRow) (rs : List TableRow) (w : Width) (i : Insn) (c : ℕ × ℕ) → (r.width ≡ w → HasCode r i → ⊥) → FirstCode rs w i c → FirstCode (r ∷ rs) w i c
behind r rs w i c lacks h = record {
  place = suc h.place;
  row = h.row;
  at = record { there = h.at.there; width = h.at.width };
  least = h.least;
  none_before = none;
}
  where
    none : (k : ℕ) (s : TableRow) → k < suc h.place → At (r ∷ rs) w k s → HasCode s i → ⊥
    none zero s l at x = let same : r ≡ s = let there = at.there in cc in lacks (ap (λ z. z.width) same ∙ at.width) (subst (λ z. HasCode z i) (sym same) x)
    none (suc k) s l at x = h.none_before k s (omega arith) (record { there = at.there; width = at.width }) x

here : (r : TableRow) (rs : List TableRow) (w : Width) (i : Insn) (c : ℕ × ℕ) → r.width ≡ w → IsLeastCode r i c.0 c.1 → FirstCode (r ∷ rs) w i c
here r rs w i c e least = record {
  place = 0;
  row = r;
  at = record { there = refl; width = e };
  least = least;
  none_before = λ k s l at x. omega arith;
}

-- what is told by the rows: the code, or that no row of the width has one
abbrev pub IsTold : List TableRow → Width → Insn → Option (ℕ × ℕ) → Type 0
IsTold rs w i None = (k : ℕ) (s : TableRow) → At rs w k s → HasCode s i → ⊥
IsTold rs w i (Some c) = FirstCode rs w i c

told_behind : (r : TableRow) (rs : List TableRow) (w : Width) (i : Insn) (o : Option (ℕ × ℕ)) → (r.width ≡ w → HasCode r i → ⊥) → IsTold rs w i o → IsTold (r ∷ rs) w i o
told_behind r rs w i (Some c) lacks h = behind r rs w i c lacks h
told_behind r rs w i None lacks h = none
  where
    none : (k : ℕ) (s : TableRow) → At (r ∷ rs) w k s → HasCode s i → ⊥
    none zero s at x = let same : r ≡ s = let there = at.there in cc in lacks (ap (λ z. z.width) same ∙ at.width) (subst (λ z. HasCode z i) (sym same) x)
    none (suc k) s at x = h k s (record { there = at.there; width = at.width }) x

told_row : (r : TableRow) (rs : List TableRow) (w : Width) (i : Insn) (o : Option (ℕ × ℕ)) → IsTold rs w i o → IsTold (r ∷ rs) w i (option_or (code_where (same_width r.width w) r (values_of i)) o)
told_row r rs w i o h = by_width _ refl
  where
    by_code : r.width ≡ w → (p : Option (ℕ × ℕ)) → least_code r (values_of i) ≡ p → IsTold (r ∷ rs) w i (option_or p o)
    by_code q (Some c) e = here r rs w i c q (row_told r i c e)
    by_code q None e = told_behind r rs w i o (λ q x. row_untold r i e x) h

    by_width : (b : Bool) → same_width r.width w ≡ b → IsTold (r ∷ rs) w i (option_or (code_where (same_width r.width w) r (values_of i)) o)
    by_width true e = subst (λ (b : Bool). IsTold (r ∷ rs) w i (option_or (code_where b r (values_of i)) o)) (sym e) (by_code (same_width_is r.width w e) _ refl)
    by_width false e =
        subst (λ (b : Bool). IsTold (r ∷ rs) w i (option_or (code_where b r (values_of i)) o)) (sym e) (told_behind r rs w i o (λ q x. same_width_not r.width w e q) h)

pub told_of : (rs : List TableRow) (w : Width) (i : Insn) → IsTold rs w i (first_code rs w (values_of i))
unfolding first_code
told_of [] w i = λ k s at x. let there = at.there in cc
told_of (r ∷ rs) w i = told_row r rs w i (first_code rs w (values_of i)) (told_of rs w i)

means_row : (b : Bool) (r : TableRow) (e : List ℤ) (o : Option (ℕ × ℕ)) (c : ℕ × ℕ) → (o ≡ Some c → (i : Insn) × (values_of i ≡ e)) → option_or (code_where b r e) o ≡ Some c → (i : Insn) × (values_of i ≡ e)
means_row false r e o c later h = later h
means_row true r e o c later h = by_code _ refl
  where
    by_code : (p : Option (ℕ × ℕ)) → least_code r e ≡ p → (i : Insn) × (values_of i ≡ e)
    by_code None f = later (rw f at h)
    by_code (Some d) f = row_means r e d f

pub means_some : (rs : List TableRow) (w : Width) (e : List ℤ) (c : ℕ × ℕ) → first_code rs w e ≡ Some c → (i : Insn) × (values_of i ≡ e)
unfolding first_code
means_some [] w e c h = cc
means_some (r ∷ rs) w e c h = means_row (same_width r.width w) r e (first_code rs w e) c (means_some rs w e c) h
