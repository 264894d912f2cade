-- What the slots of a row answer is what the row gives.
use Rattle.std.proofs.Common.{◌≡◌, ℕ, suc, ◌+◌, ◌*◌, ◌%◌, ◌<◌, ◌≤◌, true, false, ◌&&◌, List, [], ◌∷◌, ◌++◌, length, take, Result, Ok, Err, refl, sym, ◌∙◌, ap, arith, subst, inl, inr}
use Rattle.std.specs.Prelude.{ℤ, pos, ◌==◌, if◌then◌else◌}
use Rattle.std.specs.Ordering.{int_eq}
use Rattle.std.proofs.lemmas.Bool.{and_parts, and_from, cond-true, cond-false, cases_Bool, both_ways, eqb-true, eqb-false}
use Rattle.std.proofs.lemmas.Bool.Decides.{Decides-int_eq}
use Rattle.std.proofs.Math.Nat.{mod-eq_of_lt}
use Rattle.std.proofs.lemmas.List.{length-take-le}
use Rattle.tz_bits.specs.Values.{values_of}
use Rattle.tz_bits.proofs.Back.{same_values}
use Rattle.tz_table.specs.Rows.{TableRow}
use Rattle.tz_table.specs.declared.instruction.Insn.{Insn}
use Rattle.tz_encode.specs.Codes.{InRow, Reaches, IsCode, IsLeastCode, Blames, Tried}
use Rattle.tz_encode.specs.Limits.{limit_holds}
use Rattle.tz_encode.specs.Numbers.{number_for, value_at, stands_for, takes, take_all, taken, values_in, code_bits, answer}
use Rattle.tz_encode.specs.Slots.{parts_in, gathered, held_by}
use Rattle.tz_encode.specs.declared.slot.Half.{Half}
use Rattle.tz_encode.specs.declared.slot.Half.TheVariants.{First, Second}
use Rattle.tz_encode.specs.declared.slot.CodeSlot.{CodeSlot}
use Rattle.tz_encode.proofs.Apart.{all_parts}
use Rattle.tz_encode.proofs.Describes.{Describes, limits_in}
use Rattle.tz_encode.proofs.Writes.{sum_bits, sums_le, same_sums}
use Rattle.tz_encode.proofs.Cubes.{fixed, fixed_bits}
use Rattle.tz_encode.proofs.Placing.{sum_at_most, sum_bits-append, take_values}
use Rattle.tz_encode.proofs.Filling.{fill, take_all-none, taken_before, taken_le, taken_stops, taken_all}
use Rattle.tz_encode.proofs.Making.{LaidOut, made_code}
use Rattle.tz_encode.proofs.Reading.{cube_of_row}

-- a code that has values which the slots take keeps their limits
limits_taken : (e : List ℤ) (ts : List CodeSlot) (zs : List ℤ) (f s : ℕ) → take_all e ts zs ≡ true → values_in e ts f s ≡ zs → limits_in e ts f s ≡ true
limits_taken e [] zs f s h same = refl
limits_taken e (t ∷ ts) [] f s h same = cc
limits_taken e (t ∷ ts) (z ∷ zs) f s h same =
    let head : value_at t.coding e (gathered (parts_in t.parts) f s) f s ≡ z = cc in
    let tail : values_in (e ++ value_at t.coding e (gathered (parts_in t.parts) f s) f s ∷ []) ts f s ≡ zs = cc in
    let x = and_parts (takes t e z) (take_all (e ++ z ∷ []) ts zs) h in
    let y = and_parts (held_by (parts_in t.parts) (number_for t.coding e z) == number_for t.coding e z && stands_for t.coding e (number_for t.coding e z) z) (limit_holds t.limit e z) x.0 in
    and_from _ _ (ap (limit_holds t.limit e) head ∙ y.1)
    (limits_taken (e ++ value_at t.coding e (gathered (parts_in t.parts) f s) f s ∷ []) ts zs f s (subst (λ w. take_all (e ++ w ∷ []) ts zs ≡ true) (sym head) x.1) tail)

-- the code of such values
pub record Coded (r : TableRow) (form : ℕ) (ts : List CodeSlot) (zs : List ℤ) (f s : ℕ) : Type 0 where
  pub code : InRow r f s
  pub values : values_of (r.insn f s) ≡ pos form ∷ zs

pub coded : (r : TableRow) (form : ℕ) (ts : List CodeSlot) (zs : List ℤ) → Describes r form ts → LaidOut r ts → length ts ≡ length zs → take_all (pos form ∷ []) ts zs ≡ true → Coded r form ts zs (r.pattern.cube.first_value + code_bits First (pos form ∷ []) ts zs) (r.pattern.cube.second_value + code_bits Second (pos form ∷ []) ts zs)
coded r form ts zs d o l h =
    let m = made_code r (pos form ∷ []) ts zs o l h in
    let told = d.told zs (r.pattern.cube.first_value + code_bits First (pos form ∷ []) ts zs) (r.pattern.cube.second_value + code_bits Second (pos form ∷ []) ts zs) l h m.numbers in
    let limits = limits_taken (pos form ∷ []) ts zs (r.pattern.cube.first_value + code_bits First (pos form ∷ []) ts zs) (r.pattern.cube.second_value + code_bits Second (pos form ∷ []) ts zs) h told in
    let here : InRow r (r.pattern.cube.first_value + code_bits First (pos form ∷ []) ts zs) (r.pattern.cube.second_value + code_bits Second (pos form ∷ []) ts zs) = record {
      first_fits = m.first_fits;
      second_fits = m.second_fits;
      held = d.held zs _ _ m.first_fits m.second_below m.fixed_bits l h m.numbers limits;
    } in
    record { code = here; values = d.values _ _ here ∙ ap (λ l. pos form ∷ l) told }

-- ---- an instruction of which the slots take all values

-- what the values add to the fixed bits is no more than a code that has them
no_less : (h : Half) (r : TableRow) (form : ℕ) (ts : List CodeSlot) (zs : List ℤ) (g t base : ℕ) → Describes r form ts → LaidOut r ts → InRow r g t → values_in (pos form ∷ []) ts g t ≡ zs → sum_bits h (fixed r.pattern.cube) r.pattern.cube.first_value r.pattern.cube.second_value ≡ base → base + code_bits h (pos form ∷ []) ts zs ≤ sum_bits h (fixed r.pattern.cube ++ all_parts ts) g t
no_less h r form ts zs g t base d o c same e =
    let bits_same = same_sums h (fixed r.pattern.cube) g t r.pattern.cube.first_value r.pattern.cube.second_value (fixed_bits r.pattern.cube (fixed r.pattern.cube) g t r.pattern.cube.first_value r.pattern.cube.second_value o.covered (cube_of_row r g t c)) in
    let rest : code_bits h (pos form ∷ []) ts zs ≤ sum_bits h (all_parts ts) g t = subst (λ l. code_bits h (pos form ∷ []) ts l ≤ sum_bits h (all_parts ts) g t) same (sum_at_most h (pos form ∷ []) ts g t (d.written g t c)) in
    let both = sum_bits-append h (fixed r.pattern.cube) (all_parts ts) g t in
    omega arith

lexical : (f s g t : ℕ) → f ≤ g → s ≤ t → f * 65536 + s ≤ g * 65536 + t
lexical f s g t h k = omega arith

tail_of : (z : ℤ) (xs ys : List ℤ) → z ∷ xs ≡ z ∷ ys → xs ≡ ys
tail_of z xs ys h = cc

values_of_code : (r : TableRow) (form : ℕ) (ts : List CodeSlot) (i : Insn) (zs : List ℤ) (g t : ℕ) → Describes r form ts → values_of i ≡ pos form ∷ zs → IsCode r i g t → values_in (pos form ∷ []) ts g t ≡ zs
values_of_code r form ts i zs g t d v c = tail_of (pos form) (values_in (pos form ∷ []) ts g t) zs (sym (d.values g t c.code) ∙ ap values_of c.means ∙ v)

least_code : (r : TableRow) (form : ℕ) (ts : List CodeSlot) (i : Insn) (zs : List ℤ) → Describes r form ts → LaidOut r ts → values_of i ≡ pos form ∷ zs → length ts ≡ length zs → take_all (pos form ∷ []) ts zs ≡ true → IsLeastCode r i (r.pattern.cube.first_value + code_bits First (pos form ∷ []) ts zs) (r.pattern.cube.second_value + code_bits Second (pos form ∷ []) ts zs)
least_code r form ts i zs d o v l h =
    let c = coded r form ts zs d o l h in
    record {
      code = record { code = c.code; means = same_values _ i (c.values ∙ sym v) };
      least = λ g t k.
          let same = values_of_code r form ts i zs g t d v k in
          let below = sums_le (fixed r.pattern.cube ++ all_parts ts) g t o.both_apart in
          let first = no_less First r form ts zs g t r.pattern.cube.first_value d o k.code same o.first_sum in
          let second = no_less Second r form ts zs g t r.pattern.cube.second_value d o k.code same o.second_sum in
          lexical (r.pattern.cube.first_value + code_bits First (pos form ∷ []) ts zs) (r.pattern.cube.second_value + code_bits Second (pos form ∷ []) ts zs) g t (omega arith) (omega arith);
    }

-- ---- an instruction of which they don't

-- a code with the first n values
reach : (r : TableRow) (form : ℕ) (ts : List CodeSlot) (i : Insn) (zs : List ℤ) → Describes r form ts → LaidOut r ts → (n : ℕ) → n ≤ length ts → n ≤ length zs → values_of i ≡ pos form ∷ zs → take_all (pos form ∷ []) ts (take n zs) ≡ true → (f : ℕ) × ((s : ℕ) × Reaches r (suc n) i f s)
reach r form ts i zs d o n a b v h =
    let long : length (take n zs) ≡ n = length-take-le n zs b in
    let w = fill (pos form ∷ []) ts (take n zs) d.fills h (omega arith) in
    let c = coded r form ts w.all d o (sym w.long) w.taken in
    let begins : take n w.all ≡ take n zs = subst (λ m. take m w.all ≡ take n zs) long w.begins in (
      r.pattern.cube.first_value + code_bits First (pos form ∷ []) ts w.all,
      (
        r.pattern.cube.second_value + code_bits Second (pos form ∷ []) ts w.all,
        record {
          code = c.code;
          means = ap (take (suc n)) c.values ∙ ap (λ l. pos form ∷ l) begins ∙ sym (ap (take (suc n)) v);
        },
      ),
    )

length-values_in : (e : List ℤ) (ts : List CodeSlot) (f s : ℕ) → length (values_in e ts f s) ≡ length ts
length-values_in e [] f s = refl
length-values_in e (t ∷ ts) f s = ap suc (length-values_in (e ++ value_at t.coding e (gathered (parts_in t.parts) f s) f s ∷ []) ts f s)

-- no code has one value more than the slots take
no_more : (r : TableRow) (form : ℕ) (ts : List CodeSlot) (i : Insn) (zs : List ℤ) → Describes r form ts → values_of i ≡ pos form ∷ zs → length ts ≡ length zs → taken (pos form ∷ []) ts zs < length ts → (f s : ℕ) → Reaches r (suc (suc (taken (pos form ∷ []) ts zs))) i f s → ⊥
no_more r form ts i zs d v l lt f s c =
    let agree : pos form ∷ take (suc (taken (pos form ∷ []) ts zs)) (values_in (pos form ∷ []) ts f s) ≡ pos form ∷ take (suc (taken (pos form ∷ []) ts zs)) zs = sym (ap (take (suc (suc (taken (pos form ∷ []) ts zs)))) (d.values f s c.code)) ∙ c.means ∙ ap (take (suc (suc (taken (pos form ∷ []) ts zs)))) v in
    taken_stops (pos form ∷ []) ts zs (values_in (pos form ∷ []) ts f s) (take_values (pos form ∷ []) ts f s (d.written f s c.code) (d.kept f s c.code)) lt l (sym (length-values_in (pos form ∷ []) ts f s)) (tail_of (pos form) _ _ agree)

blamed : (r : TableRow) (form : ℕ) (ts : List CodeSlot) (i : Insn) (zs : List ℤ) → Describes r form ts → LaidOut r ts → values_of i ≡ pos form ∷ zs → length ts ≡ length zs → taken (pos form ∷ []) ts zs < length ts → Blames r i (suc (taken (pos form ∷ []) ts zs))
blamed r form ts i zs d o v l lt = record {
  before = reach r form ts i zs d o (taken (pos form ∷ []) ts zs) (omega arith) (omega arith) v (taken_before (pos form ∷ []) ts zs);
  never = no_more r form ts i zs d v l lt;
}

-- an instruction of another variant
other_form : (r : TableRow) (form : ℕ) (ts : List CodeSlot) (i : Insn) (z : ℤ) (zs : List ℤ) → Describes r form ts → LaidOut r ts → values_of i ≡ z ∷ zs → int_eq (pos form) z ≡ false → Blames r i 0
other_form r form ts i z zs d o v h =
    let w = fill (pos form ∷ []) ts [] d.fills (take_all-none (pos form ∷ []) ts) (omega arith) in
    let c = coded r form ts w.all d o (sym w.long) w.taken in
    record {
      before = (r.pattern.cube.first_value + code_bits First (pos form ∷ []) ts w.all, (r.pattern.cube.second_value + code_bits Second (pos form ∷ []) ts w.all, record { code = c.code; means = refl }));
      never = λ f s k.
          let agree : pos form ∷ [] ≡ z ∷ [] = sym (ap (take 1) (d.values f s k.code)) ∙ k.means ∙ ap (take 1) v in
          let same : pos form ≡ z = cc in
          both_ways (int_eq (pos form) z) h ((Decides-int_eq (pos form) z).1 same);
    }

-- ---- the answer

fitting : (n : ℕ) → n < 65536 → n % 65536 ≡ n
fitting n h = mod-eq_of_lt h

below_length : (n m : ℕ) → n ≤ m → (n ≡ m → ⊥) → n < m
below_length n m h d = omega arith

-- what the slots answer of an instruction of the variant
abbrev Given : TableRow → ℕ → List CodeSlot → List ℤ → Result (ℕ × ℕ) ℕ
Given r form ts zs = if taken (pos form ∷ []) ts zs == length ts then Ok ((r.pattern.cube.first_value + code_bits First (pos form ∷ []) ts zs) % 65536, (r.pattern.cube.second_value + code_bits Second (pos form ∷ []) ts zs) % 65536) else Err (1 + taken (pos form ∷ []) ts zs)

given : (r : TableRow) (form : ℕ) (ts : List CodeSlot) (i : Insn) (zs : List ℤ) → Describes r form ts → LaidOut r ts → length ts ≡ 8 → values_of i ≡ pos form ∷ zs → length zs ≡ 8 → Tried r i (Given r form ts zs)
unfolding Tried
given r form ts i zs d o lt v lz =
    let l : length ts ≡ length zs = lt ∙ sym lz in
    elim (cases_Bool (taken (pos form ∷ []) ts zs == length ts)) [
      | inl h ↦
          let m = made_code r (pos form ∷ []) ts zs o l (taken_all (pos form ∷ []) ts zs (eqb-true _ _ h)) in
          let code = least_code r form ts i zs d o v l (taken_all (pos form ∷ []) ts zs (eqb-true _ _ h)) in
          let exact : IsLeastCode r i ((r.pattern.cube.first_value + code_bits First (pos form ∷ []) ts zs) % 65536) ((r.pattern.cube.second_value + code_bits Second (pos form ∷ []) ts zs) % 65536) =
          subst (λ n. IsLeastCode r i n ((r.pattern.cube.second_value + code_bits Second (pos form ∷ []) ts zs) % 65536)) (sym (fitting (r.pattern.cube.first_value + code_bits First (pos form ∷ []) ts zs) m.first_fits))
          (subst (λ n. IsLeastCode r i (r.pattern.cube.first_value + code_bits First (pos form ∷ []) ts zs) n) (sym (fitting (r.pattern.cube.second_value + code_bits Second (pos form ∷ []) ts zs) m.second_below)) code) in
          subst (Tried r i) (sym (cond-true (taken (pos form ∷ []) ts zs == length ts) (Ok ((r.pattern.cube.first_value + code_bits First (pos form ∷ []) ts zs) % 65536, (r.pattern.cube.second_value + code_bits Second (pos form ∷ []) ts zs) % 65536)) (Err (1 + taken (pos form ∷ []) ts zs)) h)) exact
      | inr h ↦
          let some = taken_le (pos form ∷ []) ts zs in
          let differs = eqb-false (taken (pos form ∷ []) ts zs) (length ts) h in
          let less : taken (pos form ∷ []) ts zs < length ts = below_length (taken (pos form ∷ []) ts zs) (length ts) some.0 differs in
          let at : suc (taken (pos form ∷ []) ts zs) ≡ 1 + taken (pos form ∷ []) ts zs = omega arith in
          let nine : 1 + taken (pos form ∷ []) ts zs < 9 = omega arith in
          let blames = subst (Blames r i) at (blamed r form ts i zs d o v l less) in
          subst (Tried r i) (sym (cond-false (taken (pos form ∷ []) ts zs == length ts) (Ok ((r.pattern.cube.first_value + code_bits First (pos form ∷ []) ts zs) % 65536, (r.pattern.cube.second_value + code_bits Second (pos form ∷ []) ts zs) % 65536)) (Err (1 + taken (pos form ∷ []) ts zs)) h)) (blames, nine)
    ]

-- what the slots of a row answer is its least code, or the first value that no code has
pub tried : (r : TableRow) (form : ℕ) (ts : List CodeSlot) (i : Insn) (z : ℤ) (zs : List ℤ) → Describes r form ts → LaidOut r ts → length ts ≡ 8 → values_of i ≡ z ∷ zs → length zs ≡ 8 → Tried r i (answer form r.pattern.cube.first_value r.pattern.cube.second_value ts (z ∷ zs))
unfolding Tried
tried r form ts i z zs d o lt v lz =
    elim (cases_Bool (int_eq (pos form) z)) [
      | inl h ↦
          let same : pos form ≡ z = (Decides-int_eq (pos form) z).0 h in
          let here : Tried r i (answer form r.pattern.cube.first_value r.pattern.cube.second_value ts (pos form ∷ zs)) =
          subst (Tried r i) (sym (cond-true (int_eq (pos form) (pos form)) (Given r form ts zs) (Err 0) ((Decides-int_eq (pos form) (pos form)).1 refl)))
          (given r form ts i zs d o lt (subst (λ y. values_of i ≡ y ∷ zs) (sym same) v) lz) in
          subst (λ y. Tried r i (answer form r.pattern.cube.first_value r.pattern.cube.second_value ts (y ∷ zs))) same here
      | inr h ↦
          let blames : Tried r i (Err 0) = (other_form r form ts i z zs d o v h, omega arith) in
          subst (Tried r i) (sym (cond-false (int_eq (pos form) z) (if taken (z ∷ []) ts zs == length ts then Ok ((r.pattern.cube.first_value + code_bits First (z ∷ []) ts zs) % 65536, (r.pattern.cube.second_value + code_bits Second (z ∷ []) ts zs) % 65536) else Err (1 + taken (z ∷ []) ts zs)) (Err 0) h)) blames
    ]
