-- A fault of Non-secure code in two runs that began in twins: it leaves twins.
use Rattle.std.proofs.Common.{◌≡◌, Bool, true, false, refl, sym, ap}
use Rattle.std.specs.Prelude.{◌+◌, if◌then◌else◌, bit_or}
use Rattle.tz_table.specs.declared.units.Side.TheVariants.{Secure, NonSecure}
use Rattle.tz_model.specs.declared.report.Fault.{Fault}
use Rattle.tz_model.specs.declared.report.Fault.TheVariants.{InvPc, StackLimit, DataAccess, Exec, Precise, ExecBus, Violation, Breakpoint}
use Rattle.tz_model.specs.declared.report.Slot.{Slot}
use Rattle.tz_regs.specs.declared.parts.BusStatus.{BusStatus}
use Rattle.tz_regs.specs.declared.parts.Status.{Status}
use Rattle.tz_regs.specs.FaultBits.{ibuserr, preciserr, unstkerr, stkerr, bfarvalid, forced, debugevt}
use Rattle.tz_state.specs.declared.taken.Taken.{Taken}
use Rattle.tz_state.specs.declared.taken.Taken.TheVariants.{AsIs, Hard, Lockup}
use Rattle.tz_state.specs.Slots.{ExceptionsValue}
use Rattle.tz_state.specs.SlotChanges.{pended}
use Rattle.tz_state.specs.Escalation.{escalated}
use Rattle.tz_frames.specs.declared.frame.StackFault.{StackFault}
use Rattle.tz_frames.specs.declared.frame.StackFault.TheVariants.{Limit, Access, Signature as Unsigned}
use Rattle.tz_frames.specs.Status.{with_hfsr, status_after, word_status, frame_status, slot, exception_of, frame_exception, with_status, raised_as, raised, faulted, frame_faulted}
use Rattle.tz_twin.proofs.Split.{Open, Rest, join, Same}
use Rattle.tz_twin.proofs.Faults.{is_own}
use Rattle.tz_twin.proofs.Spared.{is_own_frame}
use Rattle.tz_twin.proofs.Works.{RaisedTwins}

-- statuses with the same Non-secure part, and with the same registers of bus faults while those are open
record StatusTwins (open_bus : Bool) (c c' : Status) : Type 0 where
  pub ns : c.ns ≡ c'.ns
  pub bus : open_bus ≡ true → c.bus ≡ c'.bus

-- what is set alike in the registers of bus faults leaves them so
bus_set : (open_bus : Bool) (c c' : Status) (change : BusStatus → BusStatus) → StatusTwins open_bus c c' → StatusTwins open_bus (record c { bus = change c.bus }) (record c' { bus = change c'.bus })
bus_set open_bus c c' change h = record { ns = h.ns; bus = λ t. ap change (h.bus t) }

-- ---- what pends

-- a status, exceptions and a lock that are left alike
left_twins : (o : Open) (x x' : Rest) (c c' : Status) (e : ExceptionsValue) (locks : Bool) → Same o x x' → StatusTwins e.bfhfnmins c c'
    → RaisedTwins o x x' (record { core = with_status (join o x).core c; exceptions = e; locks = locks }) (record { core = with_status (join o x').core c'; exceptions = e; locks = locks })
left_twins o x x' c c' e locks same h = record {
  part = record o { status_ns = c.ns; exceptions = e };
  rest = record x { status_s = c.s; security = c.security; bus = c.bus };
  rest' = record x' { status_s = c'.s; security = c'.security; bus = c'.bus };
  core = refl;
  core' = λ i. with_status (join o x').core (record c' { ns = sym h.ns i });
  exceptions = refl;
  exceptions' = refl;
  bus = refl;
  bus' = refl;
  locks = refl;
  same = record { bytes = same.bytes; bus = h.bus };
}

-- HFSR.FORCED is set in both
forced_twins : (open_bus : Bool) (c c' : Status) → StatusTwins open_bus c c' → StatusTwins open_bus (with_hfsr forced c) (with_hfsr forced c')
forced_twins open_bus c c' h = bus_set open_bus c c' (λ r. record r { hfsr = bit_or r.hfsr forced }) h

raised_as_twins : (t : Taken) (given : Slot) (o : Open) (x x' : Rest) (c c' : Status) → Same o x x' → StatusTwins o.exceptions.bfhfnmins c c'
    → RaisedTwins o x x' (raised_as t given (with_status (join o x).core c) o.exceptions) (raised_as t given (with_status (join o x').core c') o.exceptions)
raised_as_twins AsIs given o x x' c c' same h = left_twins o x x' c c' (pended o.exceptions given) false same h
raised_as_twins (Hard side) given o x x' c c' same h =
    left_twins o x x' (with_hfsr forced c) (with_hfsr forced c') (pended o.exceptions (slot 3 side)) false same (forced_twins o.exceptions.bfhfnmins c c' h)
raised_as_twins Lockup given o x x' c c' same h =
    left_twins o x x' (with_hfsr forced c) (with_hfsr forced c') o.exceptions true same (forced_twins o.exceptions.bfhfnmins c c' h)

-- an exception becomes the same in both
raised_twins : (given : Slot) (o : Open) (x x' : Rest) (c c' : Status) → Same o x x' → StatusTwins o.exceptions.bfhfnmins c c'
    → RaisedTwins o x x' (raised given (with_status (join o x).core c) o.exceptions) (raised given (with_status (join o x').core c') o.exceptions)
raised_twins given o x x' c c' same h = raised_as_twins (escalated o.exceptions o.masks given) given o x x' c c' same h

-- ---- a fault

status_twins : (fault : Fault) (o : Open) (x x' : Rest) → is_own fault ≡ true → Same o x x'
    → StatusTwins o.exceptions.bfhfnmins (status_after NonSecure fault (join o x).core.status) (status_after NonSecure fault (join o x').core.status)
unfolding is_own
status_twins (InvPc Secure) o x x' own same = absurd (cc)
status_twins (InvPc NonSecure) o x x' own same = record { ns = refl; bus = same.bus }
status_twins (StackLimit Secure) o x x' own same = absurd (cc)
status_twins (StackLimit NonSecure) o x x' own same = record { ns = refl; bus = same.bus }
status_twins (DataAccess a Secure) o x x' own same = absurd (cc)
status_twins (DataAccess a NonSecure) o x x' own same = record { ns = refl; bus = same.bus }
status_twins (Exec Secure) o x x' own same = absurd (cc)
status_twins (Exec NonSecure) o x x' own same = record { ns = refl; bus = same.bus }
status_twins (Precise a) o x x' own same =
    bus_set o.exceptions.bfhfnmins (join o x).core.status (join o x').core.status (λ r. record r { bfsr = bit_or r.bfsr (preciserr + bfarvalid); bfar = a }) (record { ns = refl; bus = same.bus })
status_twins ExecBus o x x' own same =
    bus_set o.exceptions.bfhfnmins (join o x).core.status (join o x').core.status (λ r. record r { bfsr = bit_or r.bfsr ibuserr }) (record { ns = refl; bus = same.bus })
status_twins Breakpoint o x x' own same =
    bus_set o.exceptions.bfhfnmins (join o x).core.status (join o x').core.status (λ r. record r { hfsr = bit_or r.hfsr debugevt }) (record { ns = refl; bus = same.bus })
status_twins _ o x x' own same = record { ns = refl; bus = same.bus }

-- a fault of Non-secure code
pub faulted_twins : (o : Open) (x x' : Rest) (fault : Fault) → is_own fault ≡ true → Same o x x'
    → RaisedTwins o x x' (faulted NonSecure fault (join o x).core o.exceptions) (faulted NonSecure fault (join o x').core o.exceptions)
faulted_twins o x x' fault own same =
    raised_twins (exception_of o.exceptions NonSecure fault) o x x' (status_after NonSecure fault (join o x).core.status) (status_after NonSecure fault (join o x').core.status) same
    (status_twins fault o x x' own same)

-- ---- a fault of a frame

word_twins : (stacking : Bool) (fault : Fault) (o : Open) (x x' : Rest) → is_own fault ≡ true → Same o x x'
    → StatusTwins o.exceptions.bfhfnmins (word_status stacking NonSecure fault (join o x).core.status) (word_status stacking NonSecure fault (join o x').core.status)
unfolding is_own
word_twins stacking (DataAccess a Secure) o x x' own same = absurd (cc)
word_twins stacking (DataAccess a NonSecure) o x x' own same = record { ns = refl; bus = same.bus }
word_twins stacking (Precise a) o x x' own same =
    bus_set o.exceptions.bfhfnmins (join o x).core.status (join o x').core.status (λ r. record r { bfsr = bit_or r.bfsr (if stacking then stkerr else unstkerr) }) (record { ns = refl; bus = same.bus })
word_twins stacking (Violation a) o x x' own same = record { ns = refl; bus = same.bus }
word_twins stacking fault o x x' own same = status_twins fault o x x' own same

frame_twins : (stacking : Bool) (fault : StackFault) (o : Open) (x x' : Rest) → is_own_frame fault ≡ true → Same o x x'
    → StatusTwins o.exceptions.bfhfnmins (frame_status stacking NonSecure fault (join o x).core.status) (frame_status stacking NonSecure fault (join o x').core.status)
unfolding is_own_frame
frame_twins stacking (Limit Secure) o x x' own same = absurd (cc)
frame_twins stacking (Limit NonSecure) o x x' own same = record { ns = refl; bus = same.bus }
frame_twins stacking (Access fault) o x x' own same = word_twins stacking fault o x x' own same
frame_twins stacking Unsigned o x x' own same = record { ns = refl; bus = same.bus }

-- a fault of a frame of a Non-secure stack
pub frame_faulted_twins : (stacking : Bool) (o : Open) (x x' : Rest) (fault : StackFault) → is_own_frame fault ≡ true → Same o x x'
    → RaisedTwins o x x' (frame_faulted stacking NonSecure fault (join o x).core o.exceptions) (frame_faulted stacking NonSecure fault (join o x').core o.exceptions)
frame_faulted_twins stacking o x x' fault own same =
    raised_twins (frame_exception o.exceptions NonSecure fault) o x x' (frame_status stacking NonSecure fault (join o x).core.status) (frame_status stacking NonSecure fault (join o x').core.status) same
    (frame_twins stacking fault o x x' own same)
