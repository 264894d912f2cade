-- Registers that are handed over: no register differs exactly where what is handed over is the same.
use Rattle.std.proofs.Common.{◌≡◌, ℕ, ◌+◌, ◌==◌, Bool, true, false, cond, List, [], ◌∷◌, Option, Some, None, refl, ap, subst, eqb-true}
use Rattle.tz_model.specs.declared.report.CrossKind.{CrossKind}
use Rattle.tz_model.specs.declared.report.CrossKind.TheVariants.{Return, Call, ExcReturn, Chain, Preempt, Refused}
use Rattle.tz_regs.specs.declared.parts.Registers.{Registers}
use Rattle.tz_frames.specs.Gate.{fnc_return}
use Rattle.tz_frames.specs.Registers.{saved_of}
use Rattle.tz_twin.specs.Seen.{Handed, Nothing, Saved, Whole, handed_by}
use Rattle.tz_twin.proofs.Bytes.{and_first, and_second}
use Rattle.tz_iso.specs.declared.answer.What.{What}
use Rattle.tz_iso.specs.declared.answer.What.TheVariants.{R}
use Rattle.tz_iso.specs.Parts.{is_same_apsr}
use Rattle.tz_iso.specs.What.{general_apart, all_apart, called_apart, handed_apart}
use Rattle.tz_iso.proofs.Same.{and_both, number_itself, same_flag, flag_itself, same_flags, flags_itself, first_same, also_same, neither, or_none}

-- ---- R0 to R12

head_same : (n x y : ℕ) (later : Option What) → cond (x == y) later (Some (R n)) ≡ None → (x ≡ y) × (later ≡ None)
head_same n x y later e = go (x == y) refl e where
  go : (t : Bool) → (x == y) ≡ t → cond t later (Some (R n)) ≡ None → (x ≡ y) × (later ≡ None)
  go true h e = (eqb-true x y h, e)
  go false h e = cc

pub same_general : (n : ℕ) (xs ys : List ℕ) → general_apart n xs ys ≡ None → xs ≡ ys
unfolding general_apart
same_general n [] [] e = refl
same_general n [] (y ∷ ys) e = cc
same_general n (x ∷ xs) [] e = cc
same_general n (x ∷ xs) (y ∷ ys) e =
    let h = head_same n x y (general_apart (n + 1) xs ys) e in
    let rest = same_general (n + 1) xs ys h.1 in
    λ i. h.0 i ∷ rest i

pub general_itself : (n : ℕ) (xs : List ℕ) → general_apart n xs xs ≡ None
unfolding general_apart
general_itself n [] = refl
general_itself n (x ∷ xs) = rw (number_itself x) (general_itself (n + 1) xs)

-- ---- the flags, the IT state and T

record SameApsr (r q : Registers) : Type 0 where
  pub apsr : r.apsr ≡ q.apsr
  pub it : r.it ≡ q.it
  pub t : r.t ≡ q.t

same_apsr : (r q : Registers) → is_same_apsr r q ≡ true → SameApsr r q
same_apsr r q e =
    let rest = and_second _ _ e in
    record {
      apsr = same_flags r.apsr q.apsr (and_first _ _ e);
      it = eqb-true r.it q.it (and_first _ _ rest);
      t = same_flag r.t q.t (and_second _ _ rest);
    }

apsr_itself : (r : Registers) → is_same_apsr r r ≡ true
apsr_itself r = and_both _ _ (flags_itself r.apsr) (and_both _ _ (number_itself r.it) (flag_itself r.t))

-- ---- by kinds

same_all : (r q : Registers) → r.ipsr ≡ q.ipsr → all_apart r q ≡ None → r ≡ q
same_all r q ipsr e =
    let h = neither _ _ e in
    let general = same_general 0 r.general q.general h.0 in
    let p1 = first_same (r.lr == q.lr) _ _ h.1 in
    let p2 = first_same (is_same_apsr r q) _ _ p1.1 in
    let p3 = first_same (r.pc == q.pc) _ _ p2.1 in
    let lr = eqb-true r.lr q.lr p1.0 in
    let a = same_apsr r q p2.0 in
    let pc = eqb-true r.pc q.pc p3.0 in
    λ i. record { general = general i; lr = lr i; pc = pc i; apsr = a.apsr i; it = a.it i; t = a.t i; ipsr = ipsr i }

same_called : (r q : Registers) → r.ipsr ≡ q.ipsr → called_apart r q ≡ None → record r { lr = fnc_return } ≡ record q { lr = fnc_return }
same_called r q ipsr e =
    let h = neither _ _ e in
    let general = same_general 0 r.general q.general h.0 in
    let p1 = first_same (is_same_apsr r q) _ _ h.1 in
    let p2 = first_same (r.pc == q.pc) _ _ p1.1 in
    let a = same_apsr r q p1.0 in
    let pc = eqb-true r.pc q.pc p2.0 in
    λ i. record { general = general i; lr = fnc_return; pc = pc i; apsr = a.apsr i; it = a.it i; t = a.t i; ipsr = ipsr i }

pub same_handed : (kind : CrossKind) (r q : Registers) → r.ipsr ≡ q.ipsr → handed_apart kind r q ≡ None → handed_by kind r ≡ handed_by kind q
same_handed Return r q ipsr e = ap Whole (same_all r q ipsr e)
same_handed Call r q ipsr e = ap Whole (same_called r q ipsr e)
same_handed ExcReturn r q ipsr e = ap Whole (same_all r q ipsr e)
same_handed Chain r q ipsr e = ap Saved (same_general 4 (saved_of r.general) (saved_of q.general) e)
same_handed Preempt r q ipsr e = refl
same_handed Refused r q ipsr e = refl

-- ---- the other way

all_itself : (r : Registers) → all_apart r r ≡ None
all_itself r =
    or_none _ _ (general_itself 0 r.general)
    (also_same _ _ _ (number_itself r.lr) (also_same _ _ _ (apsr_itself r) (also_same _ _ _ (number_itself r.pc) refl)))

called_itself : (r : Registers) → called_apart r r ≡ None
called_itself r = or_none _ _ (general_itself 0 r.general) (also_same _ _ _ (apsr_itself r) (also_same _ _ _ (number_itself r.pc) refl))

whole_of : Registers → Handed → Registers
whole_of other Nothing = other
whole_of other (Saved general) = other
whole_of other (Whole registers) = registers

saved_in : Handed → List ℕ
saved_in Nothing = []
saved_in (Saved general) = general
saved_in (Whole registers) = []

whole_same : (r q : Registers) → Whole r ≡ Whole q → r ≡ q
unfolding whole_of
whole_same r q e = ap (whole_of r) e

saved_same : (xs ys : List ℕ) → Saved xs ≡ Saved ys → xs ≡ ys
unfolding saved_in
saved_same xs ys e = ap saved_in e

pub none_handed : (kind : CrossKind) (r q : Registers) → handed_by kind r ≡ handed_by kind q → handed_apart kind r q ≡ None
none_handed Return r q e = subst (λ (x : Registers). all_apart r x ≡ None) (whole_same r q e) (all_itself r)
none_handed Call r q e =
    subst (λ (x : Registers). called_apart (record r { lr = fnc_return }) x ≡ None) (whole_same (record r { lr = fnc_return }) (record q { lr = fnc_return }) e)
    (called_itself (record r { lr = fnc_return }))
none_handed ExcReturn r q e = subst (λ (x : Registers). all_apart r x ≡ None) (whole_same r q e) (all_itself r)
none_handed Chain r q e =
    subst (λ (xs : List ℕ). general_apart 4 (saved_of r.general) xs ≡ None) (saved_same (saved_of r.general) (saved_of q.general) e)
    (general_itself 4 (saved_of r.general))
none_handed Preempt r q e = refl
none_handed Refused r q e = refl
