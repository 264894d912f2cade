-- What a step of each of two cores begins with: exceptions that are the same but for the timers stay so where these pend
-- alike.
use Rattle.std.proofs.Common.{◌≡◌, ℕ, ◌==◌, Bool, true, false, ◌&&◌, ◌||◌, not, List, [], ◌∷◌, refl, sym, ap, ◌∙◌}
use Rattle.std.specs.Prelude.{slice_set, slice_index_or}
use Rattle.tz_model.specs.declared.report.ScriptEvent.{ScriptEvent}
use Rattle.tz_state.specs.declared.slot.SlotState.{SlotState}
use Rattle.tz_state.specs.declared.slot.Timer.{Timer}
use Rattle.tz_state.specs.Difference.{exceptions_differ}
use Rattle.tz_state.specs.Due.{slot_of_event, slots_pended, slots_due, due, begun}
use Rattle.tz_state.specs.Slots.{ExceptionsValue, idle, sys_tick_place_s, sys_tick_place_ns}
use Rattle.tz_state.specs.Timers.{counts, interrupts, runs_out, counted_down, ticked}
use Rattle.tz_twin.specs.Writing.{with_timers_of}
use Rattle.tz_twin.proofs.Bytes.{and_first, and_second}
use Rattle.tz_iso.specs.Marks.{is_still, begin_alike}
use Rattle.tz_iso.specs.Parts.{is_same_timers}
use Rattle.tz_iso.proofs.Same as same

-- ---- events

-- which slots they pend is nothing of the timers
slots_timers : (other e : ExceptionsValue) (events : List ScriptEvent) → slots_due (with_timers_of other e) events ≡ slots_due e events
unfolding slots_due
slots_timers other e [] = refl
slots_timers other e (event ∷ more) = slots_timers other (record e { slots = slots_pended e (slot_of_event event) }) more

due_alike : (e f : ExceptionsValue) (events : List ScriptEvent) → e ≡ with_timers_of e f → due e events ≡ with_timers_of (due e events) (due f events)
due_alike e f events h =
    let slots : slots_due e events ≡ slots_due f events = ap (λ (x : ExceptionsValue). slots_due x events) h ∙ slots_timers e f events in
    λ i. record {
      slots = slots i;
      interrupts = (h i).interrupts;
      prigroup_s = (h i).prigroup_s;
      prigroup_ns = (h i).prigroup_ns;
      pris = (h i).pris;
      bfhfnmins = (h i).bfhfnmins;
      timer_s = e.timer_s;
      timer_ns = e.timer_ns;
    }

-- ---- timers

-- SysTick pends by a timer
abbrev pends : Timer → Bool
pends t = runs_out t && interrupts t

-- slots with one that pends if it is told
abbrev pended_if : List SlotState → ℕ → Bool → List SlotState
pended_if slots i pend = slice_set slots i (record (slice_index_or slots i idle) { pending = (slice_index_or slots i idle).pending || pend })

ticked_alike : (e f : ExceptionsValue) → e ≡ with_timers_of e f → pends e.timer_s ≡ pends f.timer_s → pends e.timer_ns ≡ pends f.timer_ns
    → ticked e ≡ with_timers_of (ticked e) (ticked f)
ticked_alike e f h p q = λ i. record {
  slots = pended_if (pended_if (h i).slots sys_tick_place_s (p i)) sys_tick_place_ns (q i);
  interrupts = (h i).interrupts;
  prigroup_s = (h i).prigroup_s;
  prigroup_ns = (h i).prigroup_ns;
  pris = (h i).pris;
  bfhfnmins = (h i).bfhfnmins;
  timer_s = counted_down e.timer_s;
  timer_ns = counted_down e.timer_ns;
}

-- by one that doesn't count none pends
still_pends : (t : Timer) → not (counts t) ≡ true → pends t ≡ false
still_pends t e = go (counts t) (t.cvr == 1) (interrupts t) e where
  go : (counting out asks : Bool) → not counting ≡ true → ((counting && out) && asks) ≡ false
  go true out asks e = cc
  go false out asks e = refl

by_either : {P : Type 0} (p q : Bool) → (p || q) ≡ true → (p ≡ true → P) → (q ≡ true → P) → P
by_either true q e f g = f refl
by_either false q e f g = g e

pends_alike : (e f : ExceptionsValue) → begin_alike e f ≡ true → (pends e.timer_s ≡ pends f.timer_s) × (pends e.timer_ns ≡ pends f.timer_ns)
pends_alike e f alike =
    by_either (is_still e && is_still f) (is_same_timers e f) alike
    (λ still.
    let first = and_first _ _ still in
    let second = and_second _ _ still in (
      still_pends e.timer_s (and_first _ _ first) ∙ sym (still_pends f.timer_s (and_first _ _ second)),
      still_pends e.timer_ns (and_second _ _ first) ∙ sym (still_pends f.timer_ns (and_second _ _ second)),
    ))
    (λ alike.
    (ap pends (same.same_timer e.timer_s f.timer_s (and_first _ _ alike)), ap pends (same.same_timer e.timer_ns f.timer_ns (and_second _ _ alike))))

pub begun_alike : (e f : ExceptionsValue) (events : List ScriptEvent) → e ≡ with_timers_of e f → begin_alike e f ≡ true
    → begun e events ≡ with_timers_of (begun e events) (begun f events)
begun_alike e f events h alike =
    let pend = pends_alike e f alike in
    ticked_alike (due e events) (due f events) (due_alike e f events h) pend.0 pend.1

-- what tells exceptions apart is nothing of the timers
pub differ_timers : (other e f : ExceptionsValue) → exceptions_differ e (with_timers_of other f) ≡ exceptions_differ e f
unfolding exceptions_differ
differ_timers other e f = refl
