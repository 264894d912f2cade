-- A slot that pends before all others that are ready comes first.
use Rattle.std.proofs.Common.{◌≡◌, ◌≢◌, ◌⊎◌, inl, inr, ℕ, zero, suc, ◌+◌, ◌/◌, ◌%◌, ◌<◌, ◌≤◌, Bool, true, false, ◌&&◌, ◌||◌, cond, List, [], ◌∷◌, length, Option, Some, None, refl, sym, ap, ◌∙◌, subst, arith}
use Rattle.std.specs.Prelude.{◌==◌, nat_lt, slice_set, slice_index_or}
use Rattle.std.proofs.lemmas.Bool.Decides.{nat_tests}
use Rattle.std.proofs.lemmas.List.{length-set, get_or-set_same}
use Rattle.tz_table.specs.declared.units.Side.{Side}
use Rattle.tz_table.specs.declared.units.Side.TheVariants.{Secure, NonSecure}
use Rattle.tz_regs.specs.declared.parts.Masks.{Masks}
use Rattle.tz_state.specs.declared.slot.SlotState.{SlotState}
use Rattle.tz_state.specs.Execution.{execution, can_take_any, takes_first}
use Rattle.tz_state.specs.First.{FitGroups}
use Rattle.tz_state.specs.Priority.{nmi_priority, zero_priority, hard_priority, restricted_priority, group_of, priority_of, rank_of, is_ready, chosen_place, slot_found, chosen}
use Rattle.tz_state.specs.Slots.{ExceptionsValue, places, idle, at, with_slot, is_place, exception_number, system_side, slot_at, index_of, is_always_enabled}
use Rattle.tz_state.specs.SlotChanges.{pended}
use Rattle.tz_nvic.proofs.Least.{none_below, least_found, least_is}
use Rattle.tz_nvic.proofs.Places.{index_back}
use Rattle.tz_nvic.proofs.Rank.{subpriority_few, told_by_rank}
use Rattle.tz_frames.specs.Status.{slot}

-- ---- a slot pends

abbrev pub pending_at : ExceptionsValue → ℕ → ExceptionsValue
pending_at e p = with_slot e p (record (at e p) { pending = true })

other_slot : (xs : List SlotState) (p j : ℕ) (r : SlotState) → j ≢ p → slice_index_or (slice_set xs p r) j idle ≡ slice_index_or xs j idle
other_slot [] p j r d = refl
other_slot (x ∷ xs) zero zero r d = absurd (d refl)
other_slot (x ∷ xs) zero (suc j) r d = refl
other_slot (x ∷ xs) (suc p) zero r d = refl
other_slot (x ∷ xs) (suc p) (suc j) r d = other_slot xs p j r (λ e. d (ap suc e))

-- what a slot has beside, each place keeps
same_field : {A : Type 0} (field : SlotState → A) (xs : List SlotState) (p j : ℕ) (r : SlotState) → field r ≡ field (slice_index_or xs p idle)
    → field (slice_index_or (slice_set xs p r) j idle) ≡ field (slice_index_or xs j idle)
same_field field [] p j r e = refl
same_field field (x ∷ xs) zero zero r e = e
same_field field (x ∷ xs) zero (suc j) r e = refl
same_field field (x ∷ xs) (suc p) zero r e = refl
same_field field (x ∷ xs) (suc p) (suc j) r e = same_field field xs p j r e

-- the priority of a slot by its target and its number
priority_with : ExceptionsValue → ℕ → Side → ℕ → ℕ
priority_with e i target byte =
    cond (exception_number i == 2) nmi_priority (cond (exception_number i == 3) (hard_priority e side)
    (zero_priority + restricted_priority e side (group_of e side byte))) where
      side : Side
      side = cond (nat_lt i 32) (cond (i % 2 == 1) NonSecure (system_side e (i / 2))) target

priority_is : (e : ExceptionsValue) (i : ℕ) → priority_of e i ≡ priority_with e i (at e i).target (at e i).priority
unfolding priority_of priority_with
priority_is e i = refl

priority_beside : (e : ExceptionsValue) (p i : ℕ) (target : Side) (byte : ℕ) → priority_with (pending_at e p) i target byte ≡ priority_with e i target byte
unfolding priority_with
priority_beside e p i target byte = refl

priority_same : (e : ExceptionsValue) (p i : ℕ) → priority_of (pending_at e p) i ≡ priority_of e i
priority_same e p i =
    let r : SlotState = record (at e p) { pending = true } in
    priority_is (pending_at e p) i ∙ priority_beside e p i (at (pending_at e p) i).target (at (pending_at e p) i).priority
    ∙ ap (λ (target : Side). priority_with e i target (at (pending_at e p) i).priority) (same_field (λ (s : SlotState). s.target) e.slots p i r refl)
    ∙ ap (λ (byte : ℕ). priority_with e i (at e i).target byte) (same_field (λ (s : SlotState). s.priority) e.slots p i r refl)
    ∙ sym (priority_is e i)

ready_same : (e : ExceptionsValue) (p i : ℕ) → i ≢ p → is_ready (pending_at e p) i ≡ is_ready e i
ready_same e p i d =
    ap (λ (s : SlotState). is_place e i && (s.pending && (is_always_enabled (exception_number i) || s.enabled))) (other_slot e.slots p i (record (at e p) { pending = true }) d)

pub length_pending : (e : ExceptionsValue) (p : ℕ) → length (pending_at e p).slots ≡ length e.slots
length_pending e p = length-set e.slots p (record (at e p) { pending = true })

pub pends : (e : ExceptionsValue) (p : ℕ) → p < length e.slots → (at (pending_at e p) p).pending ≡ true
pends e p h = ap (λ (s : SlotState). s.pending) (get_or-set_same e.slots p (record (at e p) { pending = true }) idle h)

-- ---- what comes first

moved : (a b : Bool) → a ≡ b → a ≡ true → b ≡ true
moved a b e h = cc

pub comes_first : (e : ExceptionsValue) (p : ℕ) → FitGroups e → p < 272 → is_ready (pending_at e p) p ≡ true
    → ((j : ℕ) → j < 272 → is_ready e j ≡ true → j ≢ p → priority_of e p < priority_of e j)
    → chosen_place (pending_at e p) ≡ Some p
comes_first e p fits below ready lower =
    let f = pending_at e p in
    least_is (is_ready f) (rank_of f) 272 p below ready
    (λ j small r d.
    let less : priority_of e p < priority_of e j = lower j small (moved (is_ready f j) (is_ready e j) (ready_same e p j d) r) d in
    told_by_rank f p j fits (omega (arith, below)) (omega (arith, small)) (inl (omega (arith, less, priority_same e p p, priority_same e p j))))

-- ---- what is ready where nothing can be taken

by_rank : (e : ExceptionsValue) (i j : ℕ) → FitGroups e → j < 512 → rank_of e i ≤ rank_of e j → priority_of e i ≤ priority_of e j
unfolding rank_of
by_rank e i j fits small h = omega (arith, small, h, subpriority_few e j fits)

not_below : (a b : ℕ) → nat_lt a b ≡ false → b ≤ a
not_below a b e = grind (arith, nat_tests)

and_first : (p q : Bool) → (p && q) ≡ true → p ≡ true
and_first true q e = refl
and_first false q e = cc

no_both : {A : Type 0} (t : Bool) → t ≡ false → t ≡ true → A
no_both t e f = absurd cc

-- no slot that is ready is below the execution priority
pub none_lower : (e : ExceptionsValue) (m : Masks) → FitGroups e → takes_first e m ≡ false → (j : ℕ) → j < 272 → is_ready e j ≡ true → execution e m ≤ priority_of e j
none_lower e m fits cant j small ready = by (chosen_place e) refl cant where
  by : (o : Option ℕ) → chosen_place e ≡ o → can_take_any e m (slot_found e o) ≡ false → execution e m ≤ priority_of e j
  by None is cant' = no_both (is_ready e j) (none_below (is_ready e) (rank_of e) 272 is j small) ready
  by (Some i) is cant' =
      let k = least_found (is_ready e) (rank_of e) 272 i is in
      let at_place : index_of (slot_at e i) ≡ i = index_back e i (and_first _ _ k.is_ready) in
      let lowest : execution e m ≤ priority_of e i = subst (λ (n : ℕ). execution e m ≤ priority_of e n) at_place (not_below (priority_of e (index_of (slot_at e i))) (execution e m) cant') in
      omega (arith, lowest, by_rank e i j fits (omega (arith, small)) (k.least j small ready))

-- ---- SVCall and HardFault of the Secure side

pub call_high : (e : ExceptionsValue) → 4 ≤ priority_of e 22
unfolding priority_of
call_high e = omega arith

hard_low : (t : Bool) → cond t 1 3 ≤ 3
hard_low true = omega arith
hard_low false = omega arith

pub hard_few : (e : ExceptionsValue) → hard_priority e Secure ≤ 3
hard_few e = hard_low e.bfhfnmins

hard_is : (e : ExceptionsValue) → priority_of e 6 ≡ hard_priority e Secure
unfolding priority_of
hard_is e = refl

and_true : (t : Bool) → t ≡ true → (t && true) ≡ true
and_true true h = refl
and_true false h = cc

-- SVCall comes first where it pends and can be taken, and nothing else can
pub call_first : (e : ExceptionsValue) (m : Masks) → FitGroups e → length e.slots ≡ places → takes_first e m ≡ false → priority_of e 22 < execution e m
    → chosen (pended e (slot 11 Secure)) ≡ Some (slot 11 Secure)
call_first e m fits size cant low =
    ap (slot_found (pending_at e 22)) (comes_first e 22 fits (omega arith) (and_true (at (pending_at e 22) 22).pending (pends e 22 (omega (arith, size))))
    (λ j small ready d. omega (arith, low, none_lower e m fits cant j small ready)))

-- HardFault comes first where it pends, and all else that is ready is of a higher priority
pub hard_first : (e : ExceptionsValue) → FitGroups e → length e.slots ≡ places → ((j : ℕ) → j < 272 → is_ready e j ≡ true → j ≢ 6 → hard_priority e Secure < priority_of e j)
    → chosen (pended e (slot 3 Secure)) ≡ Some (slot 3 Secure)
hard_first e fits size lower =
    ap (slot_found (pending_at e 6)) (comes_first e 6 fits (omega arith) (and_true (at (pending_at e 6) 6).pending (pends e 6 (omega (arith, size))))
    (λ j small ready d. omega (arith, hard_is e, lower j small ready d)))

-- also beside SVCall
pub hard_after_call : (e : ExceptionsValue) (m : Masks) → FitGroups e → length e.slots ≡ places → takes_first e m ≡ false → priority_of e 22 < execution e m
    → chosen (pended (pended e (slot 11 Secure)) (slot 3 Secure)) ≡ Some (slot 3 Secure)
hard_after_call e m fits size cant low = hard_first f fits (length_pending e 22 ∙ size) lower where
  f : ExceptionsValue
  f = pending_at e 22

  same_or : (j : ℕ) → (j ≡ 22) ⊎ (j ≢ 22)
  same_or j = grind arith

  lower : (j : ℕ) → j < 272 → is_ready f j ≡ true → j ≢ 6 → hard_priority f Secure < priority_of f j
  lower j small ready d = elim (same_or j) [
    | inl is ↦ subst (λ (i : ℕ). hard_priority f Secure < priority_of f i) (sym is) (omega (arith, hard_few e, call_high f))
    | inr other ↦ omega (arith, hard_few e, call_high e, low, priority_same e 22 j, none_lower e m fits cant j small (moved (is_ready f j) (is_ready e j) (ready_same e 22 j other) ready))
  ]
