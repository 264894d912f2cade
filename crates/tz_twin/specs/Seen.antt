-- What Non-secure code can see, and runs that agree.
use Rattle.std.specs.Prelude.{◌≡◌, ℕ, zero, suc, ◌+◌, Bool, true, false, ◌&&◌, if◌then◌else◌, List, Option, Some, None}
use Rattle.std.specs.FinMap.{get}
use Rattle.tz_model.specs.declared.report.Sleep.{Sleep}
use Rattle.tz_model.specs.declared.report.CrossKind.{CrossKind}
use Rattle.tz_model.specs.declared.report.CrossKind.TheVariants.{Return, Call, ExcReturn, Chain, Preempt, Refused}
use Rattle.tz_model.specs.declared.report.Way.{Way}
use Rattle.tz_model.specs.Board.{BoardValue}
use Rattle.tz_model.specs.Words.{is_nonsecure_side}
use Rattle.tz_regs.specs.declared.parts.Registers.{Registers}
use Rattle.tz_regs.specs.declared.parts.Stacks.{Stacks}
use Rattle.tz_regs.specs.declared.parts.Masks.{Masks}
use Rattle.tz_regs.specs.declared.parts.SideStatus.{SideStatus}
use Rattle.tz_regs.specs.declared.parts.BusStatus.{BusStatus}
use Rattle.tz_state.specs.Memory.{Memory}
use Rattle.tz_state.specs.declared.request.Exclusive.{Exclusive}
use Rattle.tz_state.specs.Attribution.{SauState, MapState, is_open}
use Rattle.tz_state.specs.Protection.{MpuState}
use Rattle.tz_state.specs.Slots.{ExceptionsValue}
use Rattle.tz_state.specs.State.{State, map_of, side_of}
use Rattle.tz_frames.specs.Gate.{fnc_return}
use Rattle.tz_frames.specs.Registers.{saved_of}
use Rattle.tz_sem.specs.Step.{Stepped, step}
use Rattle.tz_sem.specs.Run.{Events}

-- the bytes that are Non-secure as data, by address; nothing elsewhere
abbrev pub open_bytes : MapState → Memory → ℕ → Option ℕ
open_bytes m memory a = if is_open m a then get memory a else None

-- BFSR, BFAR and HFSR, while BFHFNMINS is 1
abbrev pub open_bus : Bool → BusStatus → Option BusStatus
open_bus true b = Some b
open_bus false b = None

-- the public state: the Non-secure bytes; the Non-secure stack pointers with their limits and CONTROL; what
-- masks exceptions, on both sides; the SAU and the Non-secure MPU; VTOR, CCR and the fault registers of the
-- Non-secure side, and BFSR, BFAR and HFSR while they are of that side; all exceptions with their priorities and
-- targets, and both timers; the exclusive monitor, the event flag, and what the core waits for
pub record Public : Type 0 where
  pub bytes : ℕ → Option ℕ
  pub stacks : Stacks
  pub masks : Masks
  pub sau : SauState
  pub mpu : MpuState
  pub status : SideStatus
  pub bus : Option BusStatus
  pub exceptions : ExceptionsValue
  pub monitor : Option Exclusive
  pub event : Bool
  pub sleep : Sleep

abbrev pub public_of : State → Public
public_of s =
    record {
      bytes = open_bytes (map_of s) s.bus.memory;
      stacks = s.core.stacks_ns;
      masks = s.core.masks;
      sau = s.bus.sau;
      mpu = s.bus.mpu_ns;
      status = s.core.status.ns;
      bus = open_bus s.exceptions.bfhfnmins s.core.status.bus;
      exceptions = s.exceptions;
      monitor = s.bus.monitor;
      event = s.core.event;
      sleep = s.core.run.sleep;
    }

-- what Secure code hands to the Non-secure code that goes on: all registers where it returns and where an exception
-- of Non-secure code does; all but LR, which is FNC_RETURN, where it calls; R4 to R11 where a Non-secure exception
-- follows a Secure one; and nothing where a Non-secure exception interrupts it, or a step of Non-secure code is refused
pub data Handed : Type 0 where
  Nothing : Handed
  Saved : (r4_to_r11 : List ℕ) → Handed
  Whole : (registers : Registers) → Handed

abbrev pub handed_by : CrossKind → Registers → Handed
handed_by Return r = Whole r
handed_by Call r = Whole (record r { lr = fnc_return })
handed_by ExcReturn r = Whole r
handed_by Chain r = Saved (saved_of r.general)
handed_by Preempt r = Nothing
handed_by Refused r = Nothing

abbrev pub handed : Option Way → Registers → Handed
handed None r = Nothing
handed (Some way) r = handed_by way.kind r

-- a crossing out of Secure state: its way, what Secure code hands to Non-secure code, and the public state after it
pub record Crossing : Type 0 where
  pub way : Option Way
  pub handed : Handed
  pub public : Public

-- the crossing of a step that looked at Secure state and ends Non-secure
abbrev pub crossing : Stepped → Option Crossing
crossing r =
    if r.report.touched && is_nonsecure_side (side_of r.state)
    then Some (record { way = r.report.way; handed = handed r.report.way r.state.core.registers; public = public_of r.state })
    else None

-- for n steps from step k on, with the same events: whenever one run crosses out of Secure state, so does the
-- other, in the same way, with the same handed over and the same public state
abbrev pub Agree : Events → ℕ → State → State → ℕ → Type 0
Agree events k s s' zero = Unit {0}
Agree events k s s' (suc n) =
    (crossing (step s (events k)) ≡ crossing (step s' (events k)))
    × Agree events (k + 1) (step s (events k)).state (step s' (events k)).state n

-- what Non-secure code has while it runs, and the board alone while Secure code runs
pub data Seen : Type 0 where
  Hidden : (board : BoardValue) → Seen
  Shown : (board : BoardValue) (registers : Registers) (public : Public) → Seen

abbrev pub seen : State → Seen
seen s = if is_nonsecure_side (side_of s) then Shown s.bus.board s.core.registers (public_of s) else Hidden s.bus.board
