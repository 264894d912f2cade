-- What codes mean whose operation has a class, row by row of the classes.
use Rattle.std.proofs.Common.{◌≡◌, ◌≢◌, ℕ, true, ◌&&◌, List, [], ◌∷◌, refl, sym, ◌∙◌, ap, inl, inr, rules, tests}
use Rattle.std.specs.Prelude.{◌==◌}
use Rattle.std.proofs.lemmas.Bool.{or_from, cases_Bool, cond-true, cond-false}
use Rattle.tz_table.specs.Fields.{bits}
use Rattle.tz_table.specs.Patterns.{Pattern, Field, first, has_all}
use Rattle.tz_table.specs.Table.{rows, refusals, decode_of}
use Rattle.tz_table.specs.declared.decoded.Decoded.{Decoded}
use Rattle.tz_table.proofs.Reduction.{meet, cube_of_all, reduce, refusals_left}
use Rattle.tz_table.proofs.Cubes.{meet-from}
use Rattle.tz_table.proofs.Scans.{Known, known, sift, has_all-head, has_any-head, InCube-from_all}
use Rattle.tz_decode.specs.declared.classes.DataClass.{DataClass}
use Rattle.tz_decode.specs.declared.classes.DataClass.TheVariants as classes
use Rattle.tz_decode.specs.DataClasses.{ClassRow, class_rows, class_in, class_of}

-- what the table leaves to test where a pattern is known to fit
abbrev pub left : Pattern → ℕ → ℕ → Decoded
left k f s = sift (refusals_left k refusals) (reduce k rows) f s

abbrev pub fields_of : ClassRow → List Field
fields_of r = first 5 4 r.number ∷ r.fields

-- the table says of each row what its class means, where the pattern fits and no row before it does
abbrev pub Agree : Pattern → (DataClass → ℕ → ℕ → Decoded) → List ClassRow → ℕ → ℕ → Type 0
Agree k means [] f s = left k f s ≡ means classes.Undefined f s
Agree k means (r ∷ rs) f s = (left (record k { cube = meet (cube_of_all (fields_of r)) k.cube }) f s ≡ means r.class f s) × Agree (record k { excepts = fields_of r ∷ k.excepts }) means rs f s

pub told_in : (k : Pattern) (means : DataClass → ℕ → ℕ → Decoded) (rs : List ClassRow) (f s : ℕ) → Known k f s → Agree k means rs f s → decode_of f s ≡ means (class_in rs (bits f 5 4) f s) f s
unfolding decode_of
told_in k means [] f s h a = known refusals rows k f s h ∙ a
told_in k means (r ∷ rs) f s h a =
    let head : has_all (fields_of r) f s ≡ (bits f 5 4 == r.number && has_all r.fields f s) = has_all-head (first 5 4 r.number) r.fields f s in
    elim (cases_Bool (bits f 5 4 == r.number && has_all r.fields f s)) [
      | inl t ↦
          known refusals rows (record k { cube = meet (cube_of_all (fields_of r)) k.cube }) f s (record { within = meet-from (cube_of_all (fields_of r)) k.cube f s (InCube-from_all (fields_of r) f s (head ∙ t)) h.within; without = h.without })
          ∙ a.0
          ∙ ap (λ x. means x f s) (sym (cond-true (bits f 5 4 == r.number && has_all r.fields f s) r.class (class_in rs (bits f 5 4) f s) t))
      | inr t ↦
          told_in (record k { excepts = fields_of r ∷ k.excepts }) means rs f s (record { within = h.within; without = has_any-head (fields_of r) k.excepts f s ∙ or_from _ _ (head ∙ t) h.without }) a.1
          ∙ ap (λ x. means x f s) (sym (cond-false (bits f 5 4 == r.number && has_all r.fields f s) r.class (class_in rs (bits f 5 4) f s) t))
    ]

-- the same of the class of a code, from tests: all of these fields are known
pub told : (xs : List Field) (means : DataClass → ℕ → ℕ → Decoded) (class : DataClass) (f s : ℕ) → has_all xs f s ≡ true → Agree (record { cube = cube_of_all xs; excepts = [] }) means class_rows f s → class ≡ class_of (bits f 5 4) f s → means class f s ≡ decode_of f s
unfolding class_of
told xs means class f s h a e =
    ap (λ x. means x f s) e
    ∙ sym (told_in (record { cube = cube_of_all xs; excepts = [] }) means class_rows f s (record { within = InCube-from_all xs f s h; without = refl }) a)

-- ---- the classes by their numbers

pub other_number : (n f s : ℕ) → n ≢ 0 → n ≢ 1 → n ≢ 2 → n ≢ 3 → n ≢ 4 → n ≢ 8 → n ≢ 10 → n ≢ 11 → n ≢ 13 → n ≢ 14 → classes.Undefined ≡ class_of n f s
unfolding class_of class_rows
other_number n f s h0 h1 h2 h3 h4 h5 h6 h7 h8 h9 = search (tests, rules)
