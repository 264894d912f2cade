-- What a write leaves of the ready lists.
use Rattle.std.proofs.Common.{◌≡◌, ◌≢◌, ◌⊎◌, inl, inr, ℕ, ◌<◌, ◌≤◌, Bool, true, false, cond, Option, Some, None, length, get_or, set, replicate, refl, ap, sym, ◌∙◌, length-set, get_or-set_same, get_or-set_other, arith}
use Rattle.std.specs.Prelude.{◌&&◌, ◌||◌, not}
use Rattle.std.proofs.lemmas.List.{length-replicate}
use Rattle.tz_ready.specs.declared.queue.Queue.{Queue}
use Rattle.tz_ready.specs.Links.{Linked, queue_of}
use Rattle.tz_state.specs.declared.slot.SlotState.{SlotState}
use Rattle.tz_state.specs.Slots.{ExceptionsValue, idle, places, at, is_place, exception_number, is_always_enabled, has_fixed_priority, with_slot}
use Rattle.tz_nvic.specs.Lists.{side_by, queue_by, queue_at, AreLinked}
use Rattle.tz_nvic.specs.Viewed.{AreIdleFrom}
use Rattle.tz_nvic.proofs.Idle.{all_same, idle_at}

same_or_not : (i j : ℕ) → (i ≡ j) ⊎ (i ≢ j)
same_or_not i j = grind arith

-- ---- one slot is written

written_same : (e : ExceptionsValue) (i : ℕ) (slot : SlotState) → i < length e.slots → queue_at (with_slot e i slot) i ≡ queue_by e i slot
written_same e i slot h = ap (queue_by e i) (get_or-set_same e.slots i slot idle h)

written_other : (e : ExceptionsValue) (i j : ℕ) (slot : SlotState) → j ≢ i → queue_at (with_slot e i slot) j ≡ queue_at e j
written_other e i j slot d = ap (queue_by e j) (get_or-set_other e.slots i j slot idle d)

pub relinked : (e : ExceptionsValue) (l : Linked) (i : ℕ) (slot : SlotState) → length e.slots ≡ places → i < places → AreLinked e l → AreLinked (with_slot e i slot) (set l i (queue_by e i slot))
relinked e l i slot many few h = record {
  many = length-set l i (queue_by e i slot) ∙ h.many;
  each = λ j. elim (same_or_not j i) [
    | inl k ↦ ap (λ n. get_or (set l i (queue_by e i slot)) n None) k ∙ get_or-set_same l i (queue_by e i slot) None (omega (arith, h.many)) ∙ sym (written_same e i slot (omega arith)) ∙ ap (queue_at (with_slot e i slot)) (sym k)
    | inr d ↦ get_or-set_other l i j (queue_by e i slot) None d ∙ h.each j ∙ sym (written_other e i j slot d)
  ];
}

-- ---- idle slots

idle_none : (e : ExceptionsValue) (i : ℕ) (place always has : Bool) (q : Queue) → cond ((place && (false && (always || false))) && not has) (Some q) None ≡ None
idle_none e i false always has q = refl
idle_none e i true always has q = refl

idle_unlinked : (e : ExceptionsValue) (i : ℕ) → at e i ≡ idle → queue_at e i ≡ None
idle_unlinked e i h = ap (queue_by e i) h ∙ idle_none e i (is_place e i) (is_always_enabled (exception_number i)) (has_fixed_priority (exception_number i)) (record { level = 0; side = side_by e i idle })

-- no idle slot is linked
pub none_from : (e : ExceptionsValue) (l : Linked) (n k : ℕ) → AreIdleFrom n e.slots → n ≤ k → AreLinked e l → (i : ℕ) → k ≤ i → i < places → queue_of l i ≡ None
none_from e l n k h later g i m _ = g.each i ∙ idle_unlinked e i (idle_at n i e.slots h (omega arith))

pub reset_linked : (e : ExceptionsValue) → e.slots ≡ replicate places idle → AreLinked e (replicate places None)
reset_linked e h = record {
  many = length-replicate {A = Option Queue} places None;
  each = λ i. all_same {A = Option Queue} places i None ∙ sym (idle_unlinked e i (ap (λ l. get_or l i idle) h ∙ all_same places i idle));
}
