-- One count of both timers (DDI0553, SYST_CSR, SYST_RVR, SYST_CVR).
use Rattle.std.specs.Prelude.{ℕ, ◌-◌, ◌/◌, ◌%◌, ◌^◌, ◌==◌, Bool, ◌&&◌, ◌||◌, if◌then◌else◌, bit_or}
use Rattle.tz_state.specs.declared.slot.Timer.{Timer}
use Rattle.tz_state.specs.SysTickBits.{syst_csr_tickint, syst_csr_countflag}
use Rattle.tz_state.specs.Slots.{ExceptionsValue, at, sys_tick_place_s, sys_tick_place_ns, with_slot}

-- SYST_CSR.ENABLE
abbrev pub counts : Timer → Bool
counts t = t.csr % 2 == 1

-- SYST_CSR.TICKINT
abbrev pub interrupts : Timer → Bool
interrupts t = t.csr / 2 ^ syst_csr_tickint % 2 == 1

-- the next count takes it from 1 to 0
abbrev pub runs_out : Timer → Bool
runs_out t = counts t && t.cvr == 1

-- from 0 it begins anew; a count from 1 to 0 sets COUNTFLAG
abbrev pub counted_down : Timer → Timer
counted_down t =
    record t {
      csr = if runs_out t then bit_or t.csr (2 ^ syst_csr_countflag) else t.csr;
      cvr = if counts t then (if t.cvr == 0 then t.rvr else t.cvr - 1) else t.cvr;
    }

-- SysTick at a place pends where a timer runs out and asks for it
abbrev pub pended_by : Timer → ℕ → ExceptionsValue → ExceptionsValue
pended_by t i e = with_slot e i (record (at e i) { pending = (at e i).pending || (runs_out t && interrupts t) })

abbrev pub ticked_s : ExceptionsValue → ExceptionsValue
ticked_s e = record (pended_by e.timer_s sys_tick_place_s e) { timer_s = counted_down e.timer_s }

abbrev pub ticked_ns : ExceptionsValue → ExceptionsValue
ticked_ns e = record (pended_by e.timer_ns sys_tick_place_ns e) { timer_ns = counted_down e.timer_ns }

-- each side's timer counts once
abbrev pub ticked : ExceptionsValue → ExceptionsValue
ticked e = ticked_ns (ticked_s e)
