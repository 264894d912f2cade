-- The public state: no part differs exactly where it is the same.
use Rattle.std.proofs.Common.{◌≡◌, Bool, true, false, not, Option, Some, None, refl, sym, ap, subst}
use Rattle.tz_regs.specs.declared.parts.BusStatus.{BusStatus}
use Rattle.tz_state.specs.Attribution.{SauState}
use Rattle.tz_state.specs.Protection.{MpuState}
use Rattle.tz_state.specs.Slots.{ExceptionsValue}
use Rattle.tz_state.specs.Difference.{is_same_flag, sau_differs, mpu_differs, exceptions_differ}
use Rattle.tz_state.specs.State.{State, map_of}
use Rattle.tz_state.proofs.Difference.{same_sau, sau_itself, same_mpu, mpu_itself, same_exceptions, exceptions_itself, same_shown, shown_alike}
use Rattle.tz_twin.specs.Seen.{open_bytes, open_bus, public_of}
use Rattle.tz_twin.proofs.Bytes.{and_first, and_second}
use Rattle.tz_iso.specs.Parts.{is_same_sp, is_same_limits, is_same_control, is_same_masks, is_same_side_faults, is_same_open_faults, is_same_faults, is_same_timers, is_same_monitor, is_same_sleep, is_same_rest, is_same_channel}
use Rattle.tz_iso.specs.What.{public_apart}
use Rattle.tz_iso.proofs.Same as same

not_false : (t : Bool) → not t ≡ true → t ≡ false
not_false true e = sym e
not_false false e = refl

false_not : (t : Bool) → t ≡ false → not t ≡ true
false_not true e = sym e
false_not false e = refl

-- ---- BFSR, BFAR and HFSR

same_open_bus : (t u : Bool) (a b : BusStatus) → t ≡ u → is_same_open_faults t u a b ≡ true → open_bus t a ≡ open_bus u b
same_open_bus true true a b e h = ap Some (same.same_bus_status a b h)
same_open_bus true false a b e h = cc
same_open_bus false true a b e h = cc
same_open_bus false false a b e h = refl

some_bus : BusStatus → Option BusStatus → BusStatus
some_bus other None = other
some_bus other (Some b) = b

open_bus_alike : (t u : Bool) (a b : BusStatus) → open_bus t a ≡ open_bus u b → is_same_open_faults t u a b ≡ true
unfolding some_bus
open_bus_alike true true a b e = same.passed_by_same (λ x y. is_same_open_faults true true x y) same.bus_faults_itself a b (ap (some_bus a) e)
open_bus_alike true false a b e = refl
open_bus_alike false u a b e = refl

-- ---- all parts

record SameRest (s t : State) : Type 0 where
  pub monitor : s.bus.monitor ≡ t.bus.monitor
  pub event : s.core.event ≡ t.core.event
  pub sleep : s.core.run.sleep ≡ t.core.run.sleep

same_rest : (s t : State) → is_same_rest s t ≡ true → SameRest s t
same_rest s t e =
    let rest = and_second _ _ e in
    record {
      monitor = same.same_monitor s.bus.monitor t.bus.monitor (and_first _ _ e);
      event = same.same_flag s.core.event t.core.event (and_first _ _ rest);
      sleep = same.same_sleep s.core.run.sleep t.core.run.sleep (and_second _ _ rest);
    }

-- of one board
pub same_public : (s t : State) → s.bus.board.regions ≡ t.bus.board.regions → public_apart s t ≡ None → public_of s ≡ public_of t
same_public s t regions e =
    let a1 = same.first_same _ _ _ e in
    let a2 = same.first_same _ _ _ a1.1 in
    let a3 = same.first_same _ _ _ a2.1 in
    let a4 = same.first_same _ _ _ a3.1 in
    let a5 = same.first_same _ _ _ a4.1 in
    let a6 = same.first_same _ _ _ a5.1 in
    let a7 = same.first_same _ _ _ a6.1 in
    let a8 = same.first_same _ _ _ a7.1 in
    let a9 = same.first_same _ _ _ a8.1 in
    let a10 = same.first_same _ _ _ a9.1 in
    let a11 = same.first_same _ _ _ a10.1 in
    let a12 = same.first_same _ _ _ a11.1 in
    let a13 = same.first_same _ _ _ a12.1 in
    let a14 = same.first_same _ _ _ a13.1 in
    let stacks = same.same_stacks s.core.stacks_ns t.core.stacks_ns a2.0 a3.0 a4.0 in
    let masks = same.same_masks s.core.masks t.core.masks a5.0 in
    let sau = same_sau s.bus.sau t.bus.sau (not_false _ a6.0) in
    let mpu = same_mpu s.bus.mpu_ns t.bus.mpu_ns (not_false _ a7.0) in
    let status = same.same_side_status s.core.status.ns t.core.status.ns a8.0 a9.0 (and_first _ _ a10.0) a14.0 in
    let timer_s = same.same_timer s.exceptions.timer_s t.exceptions.timer_s (and_first _ _ a12.0) in
    let timer_ns = same.same_timer s.exceptions.timer_ns t.exceptions.timer_ns (and_second _ _ a12.0) in
    let exceptions = same_exceptions s.exceptions t.exceptions (not_false _ a11.0) timer_s timer_ns in
    let map : map_of s ≡ map_of t = λ i. record { regions = regions i; sau = sau i } in
    let bytes : open_bytes (map_of s) s.bus.memory ≡ open_bytes (map_of t) t.bus.memory = same_shown s.bus t.bus map (not_false _ a1.0) in
    let bus = same_open_bus s.exceptions.bfhfnmins t.exceptions.bfhfnmins s.core.status.bus t.core.status.bus (λ i. (exceptions i).bfhfnmins) (and_second _ _ a10.0) in
    let rest = same_rest s t a13.0 in
    λ i. record {
      bytes = bytes i;
      stacks = stacks i;
      masks = masks i;
      sau = sau i;
      mpu = mpu i;
      status = status i;
      bus = bus i;
      exceptions = exceptions i;
      monitor = rest.monitor i;
      event = rest.event i;
      sleep = rest.sleep i;
    }

-- ---- the other way

pub none_public : (s t : State) → public_of s ≡ public_of t → public_apart s t ≡ None
none_public s t e =
    let stacks : s.core.stacks_ns ≡ t.core.stacks_ns = λ i. (e i).stacks in
    let status : s.core.status.ns ≡ t.core.status.ns = λ i. (e i).status in
    let exceptions : s.exceptions ≡ t.exceptions = λ i. (e i).exceptions in
    let timers : is_same_timers s.exceptions t.exceptions ≡ true =
    same.passed_by_same is_same_timers (λ x. same.and_both _ _ (same.timer_itself x.timer_s) (same.timer_itself x.timer_ns)) s.exceptions t.exceptions exceptions in
    let faults : is_same_faults s t ≡ true =
    same.and_both _ _ (same.passed_by_same is_same_side_faults same.side_faults_itself s.core.status.ns t.core.status.ns status)
    (open_bus_alike s.exceptions.bfhfnmins t.exceptions.bfhfnmins s.core.status.bus t.core.status.bus (λ i. (e i).bus)) in
    let rest : is_same_rest s t ≡ true =
    same.and_both _ _ (same.passed_by_same is_same_monitor same.monitor_itself s.bus.monitor t.bus.monitor (λ i. (e i).monitor))
    (same.and_both _ _ (same.passed_by_same is_same_flag same.flag_itself s.core.event t.core.event (λ i. (e i).event))
    (same.passed_by_same is_same_sleep same.sleep_itself s.core.run.sleep t.core.run.sleep (λ i. (e i).sleep))) in
    same.also_same _ _ _ (false_not _ (shown_alike s.bus t.bus (λ i. (e i).bytes)))
    (same.also_same _ _ _ (same.passed_by_same is_same_sp same.sp_itself s.core.stacks_ns t.core.stacks_ns stacks)
    (same.also_same _ _ _ (same.passed_by_same is_same_limits same.limits_itself s.core.stacks_ns t.core.stacks_ns stacks)
    (same.also_same _ _ _ (same.passed_by_same is_same_control same.control_itself s.core.stacks_ns t.core.stacks_ns stacks)
    (same.also_same _ _ _ (same.passed_by_same is_same_masks same.masks_itself s.core.masks t.core.masks (λ i. (e i).masks))
    (same.also_same _ _ _ (false_not _ (subst (λ (u : SauState). sau_differs s.bus.sau u ≡ false) (λ i. (e i).sau) (sau_itself s.bus.sau)))
    (same.also_same _ _ _ (false_not _ (subst (λ (m : MpuState). mpu_differs s.bus.mpu_ns m ≡ false) (λ i. (e i).mpu) (mpu_itself s.bus.mpu_ns)))
    (same.also_same _ _ _ (same.number_alike s.core.status.ns.vtor t.core.status.ns.vtor (λ i. (status i).vtor))
    (same.also_same _ _ _ (same.number_alike s.core.status.ns.ccr t.core.status.ns.ccr (λ i. (status i).ccr))
    (same.also_same _ _ _ faults
    (same.also_same _ _ _ (false_not _ (subst (λ (x : ExceptionsValue). exceptions_differ s.exceptions x ≡ false) exceptions (exceptions_itself s.exceptions)))
    (same.also_same _ _ _ timers
    (same.also_same _ _ _ rest
    (same.also_same _ _ _ (same.passed_by_same is_same_channel same.channel_itself s.core.status.ns.channel t.core.status.ns.channel (λ i. (status i).channel)) refl)))))))))))))
