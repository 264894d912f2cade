-- Exceptions whose Secure side is kept: by a slot replaced, by what a step begins with, and one change after another.
use Rattle.std.proofs.Common.{◌≡◌, ℕ, zero, suc, Bool, true, false, ◌&&◌, ◌||◌, cond, List, [], ◌∷◌, refl, ap, ◌∙◌, subst}
use Rattle.std.specs.Prelude.{slice_set, slice_index_or}
use Rattle.std.proofs.lemmas.List.{get_or-set_other}
use Rattle.tz_model.specs.declared.report.Slot.{Slot}
use Rattle.tz_model.specs.declared.report.ScriptEvent.{ScriptEvent}
use Rattle.tz_state.specs.declared.slot.SlotState.{SlotState}
use Rattle.tz_state.specs.Slots.{ExceptionsValue, at, idle, with_slot, exists, index_of}
use Rattle.tz_state.specs.Timers.{runs_out, interrupts, ticked_s, ticked}
use Rattle.tz_state.specs.Due.{slot_of_event, slots_pended, slots_due, due, begun}
use Rattle.tz_twin.specs.Integrity.{is_secure_at, KeepsExceptions}

pub same_exceptions : (e : ExceptionsValue) → KeepsExceptions e e
same_exceptions e = record {
  interrupts = refl;
  prigroup = refl;
  pris = refl;
  bfhfnmins = refl;
  targets = λ i. refl;
  enabled = λ i h. refl;
  priorities = λ i h. refl;
}

-- what is Secure stays so
secure_still : (e e' : ExceptionsValue) → KeepsExceptions e e' → (i : ℕ) → is_secure_at e i ≡ true → is_secure_at e' i ≡ true
secure_still e e' k i h = rw (k.bfhfnmins, k.targets i) h

pub then : (e e' e'' : ExceptionsValue) → KeepsExceptions e e' → KeepsExceptions e' e'' → KeepsExceptions e e''
then e e' e'' k l = record {
  interrupts = l.interrupts ∙ k.interrupts;
  prigroup = l.prigroup ∙ k.prigroup;
  pris = l.pris ∙ k.pris;
  bfhfnmins = l.bfhfnmins ∙ k.bfhfnmins;
  targets = λ i. l.targets i ∙ k.targets i;
  enabled = λ i h. l.enabled i (secure_still e e' k i h) ∙ k.enabled i h;
  priorities = λ i h. l.priorities i (secure_still e e' k i h) ∙ k.priorities i h;
}

-- ---- a slot replaced

-- by one with the same in some field, all slots have the same in it
field_kept : {A : Type 0} (field : SlotState → A) (xs : List SlotState) (i j : ℕ) (r : SlotState) → field r ≡ field (slice_index_or xs i idle)
    → field (slice_index_or (slice_set xs i r) j idle) ≡ field (slice_index_or xs j idle)
field_kept field [] i j r e = refl
field_kept field (x ∷ xs) zero zero r e = e
field_kept field (x ∷ xs) zero (suc j) r e = refl
field_kept field (x ∷ xs) (suc i) zero r e = refl
field_kept field (x ∷ xs) (suc i) (suc j) r e = field_kept field xs i j r e

-- a Secure slot keeps a field where it is kept in what replaces a Secure slot
secure_field : {A : Type 0} (field : SlotState → A) (e : ExceptionsValue) (i : ℕ) (r : SlotState) → (is_secure_at e i ≡ true → field r ≡ field (at e i)) → (j : ℕ) → is_secure_at e j ≡ true
    → field (at (with_slot e i r) j) ≡ field (at e j)
secure_field field e i r kept j h = go (is_secure_at e i) refl where
  go : (t : Bool) → is_secure_at e i ≡ t → field (slice_index_or (slice_set e.slots i r) j idle) ≡ field (slice_index_or e.slots j idle)
  go true s = field_kept field e.slots i j r (kept s)
  go false s =
      ap field (get_or-set_other e.slots i j r idle (λ is. let other : is_secure_at e i ≡ true = subst (λ (k : ℕ). is_secure_at e k ≡ true) is h in cc))

pub slot_kept : (e : ExceptionsValue) (i : ℕ) (r : SlotState) → r.target ≡ (at e i).target → (is_secure_at e i ≡ true → r.enabled ≡ (at e i).enabled)
    → (is_secure_at e i ≡ true → r.priority ≡ (at e i).priority) → KeepsExceptions e (with_slot e i r)
slot_kept e i r target enabled priority = record {
  interrupts = refl;
  prigroup = refl;
  pris = refl;
  bfhfnmins = refl;
  targets = λ j. field_kept (λ (q : SlotState). q.target) e.slots i j r target;
  enabled = λ j h. secure_field (λ (q : SlotState). q.enabled) e i r enabled j h;
  priorities = λ j h. secure_field (λ (q : SlotState). q.priority) e i r priority j h;
}

-- what pends is no part of it
pub pended_kept : (e : ExceptionsValue) (i : ℕ) (flag : Bool) → KeepsExceptions e (with_slot e i (record (at e i) { pending = flag }))
pended_kept e i flag = slot_kept e i (record (at e i) { pending = flag }) refl (λ h. refl) (λ h. refl)

-- ---- the same, with the Secure timer

-- what Non-secure code leaves of the exceptions during a step
pub record Quiet (e e' : ExceptionsValue) : Type 0 where
  pub keeps : KeepsExceptions e e'
  pub timer : e'.timer_s ≡ e.timer_s

pub quiet : (e : ExceptionsValue) → Quiet e e
quiet e = record { keeps = same_exceptions e; timer = refl }

pub quiet_then : (e e' e'' : ExceptionsValue) → Quiet e e' → Quiet e' e'' → Quiet e e''
quiet_then e e' e'' k l = record { keeps = then e e' e'' k.keeps l.keeps; timer = l.timer ∙ k.timer }

pub slot_quiet : (e : ExceptionsValue) (i : ℕ) (r : SlotState) → r.target ≡ (at e i).target → (is_secure_at e i ≡ true → r.enabled ≡ (at e i).enabled)
    → (is_secure_at e i ≡ true → r.priority ≡ (at e i).priority) → Quiet e (with_slot e i r)
slot_quiet e i r target enabled priority = record { keeps = slot_kept e i r target enabled priority; timer = refl }

-- ---- what a step begins with

event_kept : (e : ExceptionsValue) (slot : Slot) → KeepsExceptions e (record e { slots = slots_pended e slot })
event_kept e slot = go (exists e slot) where
  go : (t : Bool) → KeepsExceptions e (record e { slots = cond t (slice_set e.slots (index_of slot) (record (at e (index_of slot)) { pending = true })) e.slots })
  go true = pended_kept e (index_of slot) true
  go false = same_exceptions e

due_kept : (events : List ScriptEvent) (e : ExceptionsValue) → KeepsExceptions e (due e events)
unfolding slots_due
due_kept [] e = same_exceptions e
due_kept (event ∷ more) e =
    let next : ExceptionsValue = record e { slots = slots_pended e (slot_of_event event) } in
    then e next (due next more) (event_kept e (slot_of_event event)) (due_kept more next)

tick_kept : (e : ExceptionsValue) → KeepsExceptions e (ticked e)
tick_kept e =
    let s = ticked_s e in
    let first = pended_kept e 30 ((at e 30).pending || (runs_out e.timer_s && interrupts e.timer_s)) in
    let second = pended_kept s 31 ((at s 31).pending || (runs_out e.timer_ns && interrupts e.timer_ns)) in
    then e s (ticked e)
    (record {
      interrupts = first.interrupts;
      prigroup = first.prigroup;
      pris = first.pris;
      bfhfnmins = first.bfhfnmins;
      targets = first.targets;
      enabled = first.enabled;
      priorities = first.priorities;
    })
    (record {
      interrupts = second.interrupts;
      prigroup = second.prigroup;
      pris = second.pris;
      bfhfnmins = second.bfhfnmins;
      targets = second.targets;
      enabled = second.enabled;
      priorities = second.priorities;
    })

pub begun_kept : (e : ExceptionsValue) (events : List ScriptEvent) → KeepsExceptions e (begun e events)
begun_kept e events = then e (due e events) (begun e events) (due_kept events e) (tick_kept (due e events))
