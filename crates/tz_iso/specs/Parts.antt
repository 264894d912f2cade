-- Whether two machines have the same in a part of what Secure code leaves at a crossing out of Secure state.
use Rattle.std.specs.Prelude.{ℕ, ◌==◌, Bool, true, false, ◌&&◌, Option, Some, None}
use Rattle.tz_model.specs.declared.channel.Channel.{Channel}
use Rattle.tz_model.specs.declared.report.Sleep.{Sleep}
use Rattle.tz_model.specs.declared.report.Sleep.TheVariants.{Awake, Wfi, Wfe}
use Rattle.tz_model.specs.declared.report.CrossKind.{CrossKind}
use Rattle.tz_model.specs.declared.report.CrossKind.TheVariants.{Return, Call, ExcReturn, Chain, Preempt, Refused}
use Rattle.tz_model.specs.declared.report.Way.{Way}
use Rattle.tz_regs.specs.declared.parts.Apsr.{Apsr}
use Rattle.tz_regs.specs.declared.parts.Registers.{Registers}
use Rattle.tz_regs.specs.declared.parts.Stacks.{Stacks}
use Rattle.tz_regs.specs.declared.parts.SideMasks.{SideMasks}
use Rattle.tz_regs.specs.declared.parts.Masks.{Masks}
use Rattle.tz_regs.specs.declared.parts.SideStatus.{SideStatus}
use Rattle.tz_regs.specs.declared.parts.BusStatus.{BusStatus}
use Rattle.tz_state.specs.declared.request.Exclusive.{Exclusive}
use Rattle.tz_state.specs.declared.slot.Timer.{Timer}
use Rattle.tz_state.specs.Slots.{ExceptionsValue}
use Rattle.tz_state.specs.State.{State, is_same_size}
use Rattle.tz_state.specs.Difference.{is_same_flag}

-- ---- the way

-- the kinds by numbers, which tell them apart
abbrev pub kind_number : CrossKind → ℕ
kind_number Return = 0
kind_number Call = 1
kind_number ExcReturn = 2
kind_number Chain = 3
kind_number Preempt = 4
kind_number Refused = 5

-- both took an exception with the same LR, or neither took one
abbrev pub is_same_lr : Option ℕ → Option ℕ → Bool
is_same_lr None None = true
is_same_lr (Some lr) (Some other) = lr == other
is_same_lr lr other = false

-- the kind, IPSR after the step, and LR where an exception was taken
abbrev pub is_same_way : Way → Way → Bool
is_same_way w v = kind_number w.kind == kind_number v.kind && (w.number == v.number && is_same_lr w.lr v.lr)

-- ---- registers

-- N, Z, C, V, Q
abbrev pub is_same_flags : Apsr → Apsr → Bool
is_same_flags a b = is_same_flag a.n b.n && (is_same_flag a.z b.z && (is_same_flag a.c b.c && (is_same_flag a.v b.v && is_same_flag a.q b.q)))

-- with the IT state and T
abbrev pub is_same_apsr : Registers → Registers → Bool
is_same_apsr r q = is_same_flags r.apsr q.apsr && (r.it == q.it && is_same_flag r.t q.t)

-- ---- the public state

abbrev pub is_same_sp : Stacks → Stacks → Bool
is_same_sp a b = a.msp == b.msp && a.psp == b.psp

abbrev pub is_same_limits : Stacks → Stacks → Bool
is_same_limits a b = a.msplim == b.msplim && a.psplim == b.psplim

abbrev pub is_same_control : Stacks → Stacks → Bool
is_same_control a b = is_same_flag a.npriv b.npriv && is_same_flag a.spsel b.spsel

abbrev pub is_same_side_masks : SideMasks → SideMasks → Bool
is_same_side_masks a b = is_same_flag a.primask b.primask && (a.basepri == b.basepri && is_same_flag a.faultmask b.faultmask)

abbrev pub is_same_masks : Masks → Masks → Bool
is_same_masks a b = is_same_side_masks a.s b.s && is_same_side_masks a.ns b.ns

-- the fault registers of a side
abbrev pub is_same_side_faults : SideStatus → SideStatus → Bool
is_same_side_faults a b = a.ufsr == b.ufsr && (a.mmfsr == b.mmfsr && a.mmfar == b.mmfar)

abbrev pub is_same_bus_faults : BusStatus → BusStatus → Bool
is_same_bus_faults a b = a.bfsr == b.bfsr && (a.bfar == b.bfar && a.hfsr == b.hfsr)

-- those of BusFault and HardFault are public where BFHFNMINS is 1; where it differs the exceptions do
abbrev pub is_same_open_faults : Bool → Bool → BusStatus → BusStatus → Bool
is_same_open_faults true true a b = is_same_bus_faults a b
is_same_open_faults public other a b = true

abbrev pub is_same_faults : State → State → Bool
is_same_faults s t =
    is_same_side_faults s.core.status.ns t.core.status.ns
    && is_same_open_faults s.exceptions.bfhfnmins t.exceptions.bfhfnmins s.core.status.bus t.core.status.bus

abbrev pub is_same_timer : Timer → Timer → Bool
is_same_timer a b = a.csr == b.csr && (a.rvr == b.rvr && a.cvr == b.cvr)

abbrev pub is_same_timers : ExceptionsValue → ExceptionsValue → Bool
is_same_timers e f = is_same_timer e.timer_s f.timer_s && is_same_timer e.timer_ns f.timer_ns

abbrev pub is_same_monitor : Option Exclusive → Option Exclusive → Bool
is_same_monitor None None = true
is_same_monitor (Some a) (Some b) = a.addr == b.addr && is_same_size a.size b.size
is_same_monitor a b = false

abbrev pub is_same_sleep : Sleep → Sleep → Bool
is_same_sleep Awake Awake = true
is_same_sleep Wfi Wfi = true
is_same_sleep Wfe Wfe = true
is_same_sleep sleep other = false

-- the exclusive monitor, the event flag, and what the core waits for
abbrev pub is_same_rest : State → State → Bool
is_same_rest s t =
    is_same_monitor s.bus.monitor t.bus.monitor && (is_same_flag s.core.event t.core.event && is_same_sleep s.core.run.sleep t.core.run.sleep)

-- SRC, DST, COUNT and CTRL of a channel of the mover
abbrev pub is_same_channel : Channel → Channel → Bool
is_same_channel a b = a.src == b.src && (a.dst == b.dst && (a.count == b.count && a.ctrl == b.ctrl))
