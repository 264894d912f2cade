-- What a look finds doesn't depend on the timers; and a timer that doesn't count changes nothing.
use Rattle.std.proofs.Common.{◌≡◌, ℕ, ◌<◌, ◌-◌, zero, suc, true, false, Option, Some, None, refl, ap, sym, ◌∙◌, arith}
use Rattle.std.proofs.lemmas.Grind.{common_steps}
use Rattle.tz_table.specs.declared.units.Side.{Side}
use Rattle.tz_table.specs.declared.units.Side.TheVariants.{Secure, NonSecure}
use Rattle.tz_state.specs.SlotChanges.{with_timer}
use Rattle.tz_state.specs.Timers.{counts, counted_down, pended_by, ticked, ticked_ns}
use Rattle.std.specs.Prelude.{min, if◌then◌else◌, IfSome}
use Rattle.tz_state.specs.declared.slot.Timer.{Timer}
use Rattle.tz_state.specs.Slots.{ExceptionsValue, exception_number, sys_tick_place_s, sys_tick_place_ns, timer_of}
use Rattle.tz_state.specs.Priority.{rank_of, priority_of, subpriority_of, chosen_place}
use Rattle.tz_state.specs.Execution.{is_active, active_below}
use Rattle.tz_nvic.specs.declared.known.Known.{Known}
use Rattle.tz_nvic.specs.declared.active.ActiveSlots.{ActiveSlots}
use Rattle.tz_nvic.specs.ActiveSlots.{active_slots_below, slot_added}
use Rattle.tz_nvic.specs.Known.{IsKnown}

abbrev timed : ExceptionsValue → Timer → Timer → ExceptionsValue
timed e s ns = record e { timer_s = s; timer_ns = ns }

same_choice : (e : ExceptionsValue) (s ns : Timer) → chosen_place (timed e s ns) ≡ chosen_place e
unfolding rank_of priority_of subpriority_of
same_choice e s ns = refl

same_priority : (e : ExceptionsValue) (s ns : Timer) (i : ℕ) → priority_of (timed e s ns) i ≡ priority_of e i
unfolding priority_of
same_priority e s ns i = refl

same_least : (e : ExceptionsValue) (s ns : Timer) (n : ℕ) → active_below (timed e s ns) n ≡ active_below e n
unfolding active_below
same_least e s ns zero = refl
same_least e s ns (suc n) =
    ap (λ (p : ℕ). if is_active e n then min p (active_below (timed e s ns) n) else active_below (timed e s ns) n) (same_priority e s ns n)
    ∙ ap (λ (r : ℕ). if is_active e n then min (priority_of e n) r else r) (same_least e s ns n)

same_slots : (e : ExceptionsValue) (s ns : Timer) (n : ℕ) → active_slots_below (timed e s ns) n ≡ active_slots_below e n
unfolding active_slots_below
same_slots e s ns zero = refl
same_slots e s ns (suc n) = ap (λ (r : ActiveSlots). if is_active e n then slot_added (exception_number n) r else r) (same_slots e s ns n)

still_known : (e : ExceptionsValue) (s ns : Timer) (k : Known) → IsKnown e k → IsKnown (timed e s ns) k
still_known e s ns k h =
    record {
      chosen = h.chosen ∙ sym (same_choice e s ns);
      few = h.few;
      place = h.place;
      raw = h.raw ∙ sym (same_least e s ns 272);
      least = h.least;
      interrupt = h.interrupt;
      active = h.active ∙ sym (same_slots e s ns 272);
    }

-- what is known stays so while the timers change
pub known_with_timers : (e : ExceptionsValue) (s ns : Timer) (o : Option Known) → IfSome o (λ k. IsKnown e k) → IfSome o (λ k. IsKnown (timed e s ns) k)
known_with_timers e s ns None h = h
known_with_timers e s ns (Some k) h = still_known e s ns k h

-- a timer that doesn't count stays, and pends nothing
pub uncounted : (e : ExceptionsValue) (side : Side) (i : ℕ) → counts (timer_of e side) ≡ false → e ≡ with_timer (pended_by (timer_of e side) i e) side (counted_down (timer_of e side))
uncounted e Secure i h = grind (arith, common_steps)
uncounted e NonSecure i h = grind (arith, common_steps)

-- a timer that counts and doesn't end goes down, and pends nothing
pub counting : (e : ExceptionsValue) (side : Side) (i : ℕ) → counts (timer_of e side) ≡ true → 1 < (timer_of e side).cvr
    → with_timer e side (record (timer_of e side) { cvr = (timer_of e side).cvr - 1 }) ≡ with_timer (pended_by (timer_of e side) i e) side (counted_down (timer_of e side))
counting e Secure i h l = grind (arith, common_steps)
counting e NonSecure i h l = grind (arith, common_steps)

-- where neither timer counts, a tick changes nothing
pub none_ticked : (e : ExceptionsValue) → counts e.timer_s ≡ false → counts e.timer_ns ≡ false → e ≡ ticked e
none_ticked e s ns = uncounted e NonSecure sys_tick_place_ns ns ∙ ap ticked_ns (uncounted e Secure sys_tick_place_s s)
