-- The exceptions as a value.
use Rattle.std.specs.Prelude.{◌≡◌, ℕ, ◌-◌, ◌≤◌, List, length, drop, replicate, IfSome}
use Rattle.std.specs.List.{count_by}
use Rattle.tz_state.specs.declared.slot.SlotState.{SlotState}
use Rattle.tz_state.specs.Slots.{ExceptionsValue, idle, places}
use Rattle.tz_nvic.specs.Known.{IsKnown}
use Rattle.tz_nvic.specs.Lists.{AreLinked}
use Rattle.tz_nvic.specs.declared.exceptions.Exceptions.TheInside.{Inside}

-- all but what is known of them
abbrev pub value_of : Inside → ExceptionsValue
value_of e =
    record {
      slots = e.slots.items;
      interrupts = e.interrupts;
      prigroup_s = e.prigroup_s;
      prigroup_ns = e.prigroup_ns;
      pris = e.pris;
      bfhfnmins = e.bfhfnmins;
      timer_s = e.timer_s;
      timer_ns = e.timer_ns;
    }

-- all slots from a place on are idle
abbrev pub AreIdleFrom : ℕ → List SlotState → Type 0
AreIdleFrom i slots = (i ≤ places) × (drop i slots ≡ replicate (places - i) idle)

-- each slot has a place, numbers are in range, what is known is so, what is idle is, what is ready is linked, and what is
-- active is counted
abbrev pub Holds : Inside → Type 0
Holds e =
    (length e.slots.items ≡ 272)
    × (e.interrupts ≤ 240)
    × (e.prigroup_s ≤ 7)
    × (e.prigroup_ns ≤ 7)
    × IfSome e.known (λ k. IsKnown (value_of e) k)
    × AreIdleFrom e.idle_from e.slots.items
    × AreLinked (value_of e) e.ready
    × (e.active_count ≡ count_by (λ slot. slot.active) e.slots.items)
