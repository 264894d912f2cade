-- What entry and return spare of the Secure side, and that a fault of Non-secure code spares it.
use Rattle.std.proofs.Common.{◌≡◌, ℕ, Bool, true, false, refl, ◌∙◌}
use Rattle.tz_table.specs.declared.units.Side.{Side}
use Rattle.tz_table.specs.declared.units.Side.TheVariants.{Secure, NonSecure}
use Rattle.tz_model.specs.declared.report.Fault.{Fault}
use Rattle.tz_model.specs.declared.report.Fault.TheVariants.{Undef, InvState, InvPc, NoCp, StackLimit, Unaligned, DivZero, DataAccess, Exec, Precise, ExecBus, Violation, EntryPoint, Transition, ExcReturn, Signature, Breakpoint, Call}
use Rattle.tz_model.specs.declared.report.Slot.{Slot}
use Rattle.tz_regs.specs.declared.parts.Core.{Core}
use Rattle.tz_regs.specs.declared.parts.Status.{Status}
use Rattle.tz_state.specs.Memory.{Memory}
use Rattle.tz_state.specs.Attribution.{MapState}
use Rattle.tz_state.specs.declared.taken.Taken.{Taken}
use Rattle.tz_state.specs.declared.taken.Taken.TheVariants.{AsIs, Hard, Lockup}
use Rattle.tz_state.specs.Slots.{ExceptionsValue, at, with_slot, index_of}
use Rattle.tz_state.specs.Escalation.{escalated}
use Rattle.tz_frames.specs.declared.frame.StackFault.{StackFault}
use Rattle.tz_frames.specs.declared.frame.StackFault.TheVariants.{Limit, Access, Signature as Unsigned}
use Rattle.tz_frames.specs.Status.{status_after, word_status, frame_status, slot, exception_of, frame_exception, with_status, raised_as, raised, faulted, frame_faulted}
use Rattle.tz_twin.specs.Integrity.{KeepsBytes, KeepsExceptions}
use Rattle.tz_twin.proofs.Bytes.{keeps_nothing_changed, keeps_then}
use Rattle.tz_twin.proofs.Slots.{Quiet, quiet, quiet_then, slot_quiet}
use Rattle.tz_twin.proofs.Faults.{is_own}

-- a core, exceptions and memory whose Secure side is as it was, with the bytes that a map doesn't attribute Non-secure
pub record KeptBy (c c' : Core) (e e' : ExceptionsValue) (m : MapState) (old new : Memory) : Type 0 where
  pub stacks : c'.stacks_s ≡ c.stacks_s
  pub masks : c'.masks.s ≡ c.masks.s
  pub status : c'.status.s ≡ c.status.s
  pub exceptions : KeepsExceptions e e'
  pub timer : e'.timer_s ≡ e.timer_s
  pub bytes : KeepsBytes m old new

-- with the same memory
pub kept_from : (c c' : Core) (e e' : ExceptionsValue) (m : MapState) (n : Memory) → c'.stacks_s ≡ c.stacks_s → c'.masks.s ≡ c.masks.s → c'.status.s ≡ c.status.s → Quiet e e' → KeptBy c c' e e' m n n
kept_from c c' e e' m n stacks masks status q = record {
  stacks = stacks;
  masks = masks;
  status = status;
  exceptions = q.keeps;
  timer = q.timer;
  bytes = keeps_nothing_changed m n;
}

pub kept_all : (c : Core) (e : ExceptionsValue) (m : MapState) (n : Memory) → KeptBy c c e e m n n
kept_all c e m n = kept_from c c e e m n refl refl refl (quiet e)

pub kept_then : (c1 c2 c3 : Core) (e1 e2 e3 : ExceptionsValue) (m : MapState) (n1 n2 n3 : Memory) → KeptBy c1 c2 e1 e2 m n1 n2 → KeptBy c2 c3 e2 e3 m n2 n3 → KeptBy c1 c3 e1 e3 m n1 n3
kept_then c1 c2 c3 e1 e2 e3 m n1 n2 n3 h k =
    let q = quiet_then e1 e2 e3 (record { keeps = h.exceptions; timer = h.timer }) (record { keeps = k.exceptions; timer = k.timer }) in
    record {
      stacks = k.stacks ∙ h.stacks;
      masks = k.masks ∙ h.masks;
      status = k.status ∙ h.status;
      exceptions = q.keeps;
      timer = q.timer;
      bytes = keeps_then m n1 n2 n3 h.bytes k.bytes;
    }

-- ---- exceptions

-- that a slot pends or is active is no part of what is kept
pub flags_quiet : (e : ExceptionsValue) (i : ℕ) (pending active : Bool) → Quiet e (with_slot e i (record (at e i) { pending = pending; active = active }))
flags_quiet e i pending active = slot_quiet e i (record (at e i) { pending = pending; active = active }) refl (λ h. refl) (λ h. refl)

pends_quiet : (e : ExceptionsValue) (given : Slot) → Quiet e (with_slot e (index_of given) (record (at e (index_of given)) { pending = true }))
pends_quiet e given = flags_quiet e (index_of given) true (at e (index_of given)).active

-- ---- a fault

raised_as_kept : (t : Taken) (given : Slot) (c : Core) (e : ExceptionsValue) (m : MapState) (n : Memory) → KeptBy c (raised_as t given c e).core e (raised_as t given c e).exceptions m n n
raised_as_kept AsIs given c e m n = kept_from c (raised_as AsIs given c e).core e (raised_as AsIs given c e).exceptions m n refl refl refl (pends_quiet e given)
raised_as_kept (Hard side) given c e m n =
    kept_from c (raised_as (Hard side) given c e).core e (raised_as (Hard side) given c e).exceptions m n refl refl refl (pends_quiet e (slot 3 side))
raised_as_kept Lockup given c e m n = kept_from c (raised_as Lockup given c e).core e e m n refl refl refl (quiet e)

raised_kept : (given : Slot) (c : Core) (e : ExceptionsValue) (m : MapState) (n : Memory) → KeptBy c (raised given c e).core e (raised given c e).exceptions m n n
raised_kept given c e m n = raised_as_kept (escalated e c.masks given) given c e m n

-- with status bits that aren't of the Secure side
raised_status : (given : Slot) (c : Core) (status : Status) (e : ExceptionsValue) (m : MapState) (n : Memory) → status.s ≡ c.status.s
    → KeptBy c (raised given (with_status c status) e).core e (raised given (with_status c status) e).exceptions m n n
raised_status given c status e m n h =
    let r = raised given (with_status c status) e in
    kept_then c (with_status c status) r.core e e r.exceptions m n n n (kept_from c (with_status c status) e e m n refl refl h (quiet e))
    (raised_kept given (with_status c status) e m n)

status_kept : (fault : Fault) (c : Status) → is_own fault ≡ true → (status_after NonSecure fault c).s ≡ c.s
unfolding is_own
status_kept (InvPc Secure) c own = cc
status_kept (InvPc NonSecure) c own = refl
status_kept (StackLimit Secure) c own = cc
status_kept (StackLimit NonSecure) c own = refl
status_kept (DataAccess a Secure) c own = cc
status_kept (DataAccess a NonSecure) c own = refl
status_kept (Exec Secure) c own = cc
status_kept (Exec NonSecure) c own = refl
status_kept Undef c own = refl
status_kept InvState c own = refl
status_kept NoCp c own = refl
status_kept Unaligned c own = refl
status_kept DivZero c own = refl
status_kept (Precise a) c own = refl
status_kept ExecBus c own = refl
status_kept (Violation a) c own = refl
status_kept EntryPoint c own = refl
status_kept Transition c own = refl
status_kept ExcReturn c own = refl
status_kept Signature c own = refl
status_kept Breakpoint c own = refl
status_kept Call c own = refl

-- a fault of Non-secure code
pub faulted_kept : (fault : Fault) (c : Core) (e : ExceptionsValue) (m : MapState) (n : Memory) → is_own fault ≡ true
    → KeptBy c (faulted NonSecure fault c e).core e (faulted NonSecure fault c e).exceptions m n n
faulted_kept fault c e m n own =
    raised_status (exception_of e NonSecure fault) c (status_after NonSecure fault c.status) e m n (status_kept fault c.status own)

-- ---- a fault of a frame

-- one that names no Secure side
unfoldable pub is_own_frame : StackFault → Bool
is_own_frame (Limit Secure) = false
is_own_frame (Limit NonSecure) = true
is_own_frame (Access fault) = is_own fault
is_own_frame Unsigned = true

word_status_kept : (stacking : Bool) (fault : Fault) (c : Status) → is_own fault ≡ true → (word_status stacking NonSecure fault c).s ≡ c.s
unfolding is_own
word_status_kept stacking (DataAccess a Secure) c own = cc
word_status_kept stacking (DataAccess a NonSecure) c own = refl
word_status_kept stacking (Precise a) c own = refl
word_status_kept stacking (Violation a) c own = refl
word_status_kept stacking fault c own = status_kept fault c own

frame_status_kept : (stacking : Bool) (fault : StackFault) (c : Status) → is_own_frame fault ≡ true → (frame_status stacking NonSecure fault c).s ≡ c.s
unfolding is_own_frame
frame_status_kept stacking (Limit Secure) c own = cc
frame_status_kept stacking (Limit NonSecure) c own = refl
frame_status_kept stacking (Access fault) c own = word_status_kept stacking fault c own
frame_status_kept stacking Unsigned c own = refl

-- a fault of a frame of a Non-secure stack
pub frame_faulted_kept : (stacking : Bool) (fault : StackFault) (c : Core) (e : ExceptionsValue) (m : MapState) (n : Memory) → is_own_frame fault ≡ true
    → KeptBy c (frame_faulted stacking NonSecure fault c e).core e (frame_faulted stacking NonSecure fault c e).exceptions m n n
frame_faulted_kept stacking fault c e m n own =
    raised_status (frame_exception e NonSecure fault) c (frame_status stacking NonSecure fault c.status) e m n (frame_status_kept stacking fault c.status own)

-- ---- whose code runs

raised_as_side : (t : Taken) (given : Slot) (c : Core) (e : ExceptionsValue) → (raised_as t given c e).core.run.side ≡ c.run.side
raised_as_side AsIs given c e = refl
raised_as_side (Hard side) given c e = refl
raised_as_side Lockup given c e = refl

-- a fault is pended by the code that runs on
pub faulted_side : (side : Side) (fault : Fault) (c : Core) (e : ExceptionsValue) → (faulted side fault c e).core.run.side ≡ c.run.side
faulted_side side fault c e = raised_as_side (escalated e c.masks (exception_of e side fault)) (exception_of e side fault) (with_status c (status_after side fault c.status)) e

pub frame_faulted_side : (stacking : Bool) (side : Side) (fault : StackFault) (c : Core) (e : ExceptionsValue) → (frame_faulted stacking side fault c e).core.run.side ≡ c.run.side
frame_faulted_side stacking side fault c e =
    raised_as_side (escalated e c.masks (frame_exception e side fault)) (frame_exception e side fault) (with_status c (frame_status stacking side fault c.status)) e
