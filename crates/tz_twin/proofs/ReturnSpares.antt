-- A return of Non-secure code that doesn't look at Secure state spares the Secure side.
use Rattle.std.proofs.Common.{◌≡◌, ℕ, Bool, true, false, ◌&&◌, ◌||◌, not, cond, Option, Some, None, Result, Ok, Err, refl, sym, ◌∙◌, subst}
use Rattle.tz_table.specs.declared.units.Side.{Side}
use Rattle.tz_table.specs.declared.units.Side.TheVariants.{Secure, NonSecure}
use Rattle.tz_model.specs.declared.board.Profile.{Profile}
use Rattle.tz_model.specs.declared.report.Fault.{Fault}
use Rattle.tz_model.specs.declared.report.Fault.TheVariants.{InvPc}
use Rattle.tz_model.specs.declared.report.Slot.{Slot}
use Rattle.tz_regs.specs.declared.parts.Core.{Core}
use Rattle.tz_state.specs.Slots.{ExceptionsValue, at, exists, index_of}
use Rattle.tz_state.specs.SlotChanges.{deactivated}
use Rattle.tz_state.specs.Execution.{raw_priority, takes_first}
use Rattle.tz_state.specs.State.{map_in}
use Rattle.tz_frames.specs.Machine.{Framed, framed}
use Rattle.tz_frames.specs.declared.frame.StackFault.{StackFault}
use Rattle.tz_frames.specs.declared.frame.Basic.{Basic}
use Rattle.tz_frames.specs.declared.entering.Entered.{Entered}
use Rattle.tz_frames.specs.declared.entering.Entered.TheVariants as entered
use Rattle.tz_frames.specs.declared.leaving.Returning.{Returning}
use Rattle.tz_frames.specs.declared.leaving.Unstacked.{Unstacked}
use Rattle.tz_frames.specs.declared.leaving.Left.{Left}
use Rattle.tz_frames.specs.declared.leaving.Left.TheVariants as lefts
use Rattle.tz_frames.specs.declared.leaving.Refusal.{Refusal}
use Rattle.tz_frames.specs.declared.leaving.Refusal.TheVariants as refusals
use Rattle.tz_frames.specs.Status.{Raised, faulted, frame_faulted}
use Rattle.tz_frames.specs.Stack.{popped_basic}
use Rattle.tz_frames.specs.Enter.{Work, with_lock, tries}
use Rattle.tz_frames.specs.Leave.{returning_by, side_of_bit, slot_returning, is_well_formed, is_forged, is_returnable, exc_return_fault, is_urgent, urgent_slot, freed, core_returning, chaining, Leaving, left_of, chained, chained_raised, returns_privileged, return_sp, with_basic, unstacked, resumed, modes_agree, resumes, goes_back, leaves_noting, leaves}
use Rattle.tz_twin.proofs.Slots.{Quiet, quiet}
use Rattle.tz_twin.proofs.Faults.{is_own, OwnSome, own_some}
use Rattle.tz_twin.proofs.Spared.{KeptBy, kept_from, flags_quiet, faulted_kept, faulted_side, is_own_frame, frame_faulted_kept, frame_faulted_side}
use Rattle.tz_twin.proofs.OwnFrames.{OwnFrame, popped_own}
use Rattle.tz_twin.proofs.EntrySpares.{entered_touched, Spared, spared_then, lock_spared, tries_spares}

-- whether a return looked at Secure state
abbrev pub left_touched : Left → Bool
left_touched (lefts.Resumed touched) = touched
left_touched (lefts.Chained given refused entry) = entry.touched
left_touched (lefts.Lockup refused entry) = entry.touched

-- what a stage of a return leaves, and whether it looked at Secure state before: nothing is written, and where it
-- didn't look in the end, it hadn't before, and spares the Secure side
pub record Returns (before : Bool) (c : Core) (e : ExceptionsValue) (f : Framed) (l : Leaving Framed) : Type 0 where
  pub held : l.held ≡ f
  pub touched : left_touched l.result ≡ false → before ≡ false
  pub spared : left_touched l.result ≡ false → Spared c l.core e l.exceptions

returns_cond : (before : Bool) (c : Core) (e : ExceptionsValue) (f : Framed) (t : Bool) (x y : Leaving Framed) → Returns before c e f x → Returns before c e f y → Returns before c e f (cond t x y)
returns_cond before c e f true x y h k = h
returns_cond before c e f false x y h k = k

-- whether it looked before counts no more in the end
returns_any : (before : Bool) (c : Core) (e : ExceptionsValue) (f : Framed) (l : Leaving Framed) → Returns before c e f l → Returns false c e f l
returns_any before c e f l h = record { held = h.held; touched = λ t. refl; spared = h.spared }

-- after what was spared
returns_after : (before : Bool) (c c' : Core) (e e' : ExceptionsValue) (f : Framed) (l : Leaving Framed) → (before ≡ false → Spared c c' e e') → Returns before c' e' f l → Returns before c e f l
returns_after before c c' e e' f l h k = record {
  held = k.held;
  touched = k.touched;
  spared = λ t. spared_then c c' l.core e e' l.exceptions (h (k.touched t)) (k.spared t);
}

-- ---- a tail-chain

pub entered_left : (refused : Option Refusal) (x : Entered) → left_touched (left_of refused x) ≡ entered_touched x
entered_left refused (entered.Taken given entry) = refl
entered_left refused (entered.Lockup entry) = refl

pub no_callee : (secure es dcrs : Bool) → es ≡ false → (secure && not (not es || not dcrs)) ≡ false
no_callee true true dcrs h = cc
no_callee true false dcrs h = refl
no_callee false es dcrs h = refl

chained_returns : (profile : Profile) (r : Returning) (refused : Option Refusal) (touched : Bool) (c : Core) (e : ExceptionsValue) (f : Framed) → r.es ≡ false → Returns touched c e f (chained framed profile r refused touched c e f)
unfolding chained
chained_returns profile r refused touched c e f own =
    let w : Work Framed = record { core = c; exceptions = e; held = f; entry = chaining r touched } in
    let d = tries framed profile 4 w in
    let tried = tries_spares profile 4 w (no_callee r.secure r.es r.dcrs own) in
    record {
      held = tried.held;
      touched = λ t. tried.touched (sym (entered_left refused d.result) ∙ t);
      spared = λ t. tried.spared (sym (entered_left refused d.result) ∙ t);
    }

chained_raised_returns : (profile : Profile) (r : Returning) (refusal : Refusal) (touched : Bool) (c : Core) (e : ExceptionsValue) (f : Framed) (raised : Raised) → r.es ≡ false
    → (touched ≡ false → Spared c raised.core e raised.exceptions) → Returns touched c e f (chained_raised framed profile r refusal touched f raised)
chained_raised_returns profile r refusal touched c e f raised own h =
    returns_cond touched c e f raised.locks (record { core = with_lock raised.core; exceptions = raised.exceptions; held = f; result = lefts.Lockup (Some refusal) (chaining r touched) })
    (chained framed profile r (Some refusal) touched raised.core raised.exceptions f)
    (record {
      held = refl;
      touched = λ t. t;
      spared = λ t. spared_then c raised.core (with_lock raised.core) e raised.exceptions raised.exceptions (h t) (lock_spared raised.core raised.exceptions);
    })
    (returns_after touched c raised.core e raised.exceptions f (chained framed profile r (Some refusal) touched raised.core raised.exceptions f) h
    (chained_returns profile r (Some refusal) touched raised.core raised.exceptions f own))

-- ---- faults

faulted_spared : (side : Side) (fault : Fault) (c : Core) (e : ExceptionsValue) → side ≡ NonSecure → is_own fault ≡ true → Spared c (faulted side fault c e).core e (faulted side fault c e).exceptions
faulted_spared Secure fault c e is own = absurd (cc)
faulted_spared NonSecure fault c e is own = record { kept = λ m n. faulted_kept fault c e m n own; side = λ runs. faulted_side NonSecure fault c e ∙ runs }

frame_spared : (side : Side) (fault : StackFault) (c : Core) (e : ExceptionsValue) → side ≡ NonSecure → is_own_frame fault ≡ true
    → Spared c (frame_faulted false side fault c e).core e (frame_faulted false side fault c e).exceptions
frame_spared Secure fault c e is own = absurd (cc)
frame_spared NonSecure fault c e is own =
    record { kept = λ m n. frame_faulted_kept false fault c e m n own; side = λ runs. frame_faulted_side false NonSecure fault c e ∙ runs }

pub own_inv_pc : (side : Side) → side ≡ NonSecure → is_own (InvPc side) ≡ true
unfolding is_own
own_inv_pc Secure is = cc
own_inv_pc NonSecure is = refl

nonsecure_by : (secure : Bool) → secure ≡ false → side_of_bit secure ≡ NonSecure
nonsecure_by true is = cc
nonsecure_by false is = refl

-- ---- frames

own_with_basic : (x : Result Basic StackFault) → OwnFrame x → OwnFrame (with_basic None x)
unfolding OwnFrame
own_with_basic (Ok basic) h = tt
own_with_basic (Err fault) h = h

-- the bits of a value
abbrev pub bits : Bool → Bool → Bool → Bool → Bool → Returning
bits es process thread dcrs secure = record { es = es; process = process; thread = thread; dcrs = dcrs; secure = secure }

own_unstacked : (c : Core) (f : Framed) (es process thread dcrs secure : Bool) → secure ≡ false → OwnFrame (unstacked framed c (bits es process thread dcrs secure) f)
unfolding unstacked
own_unstacked c f es process thread dcrs true is = absurd (cc)
own_unstacked c f es process thread dcrs false is =
    let r = bits es process thread dcrs false in
    own_with_basic (popped_basic framed f (return_sp c r) NonSecure (returns_privileged c r)) (popped_own f (return_sp c r) (returns_privileged c r))

resumed_spared : (c : Core) (e : ExceptionsValue) (u : Unstacked) (es process thread dcrs secure : Bool) → secure ≡ false → Spared c (resumed (bits es process thread dcrs secure) u c) e e
resumed_spared c e u es process thread dcrs true is = absurd (cc)
resumed_spared c e u es process thread dcrs false is = record {
  kept = λ m n. kept_from c (resumed (bits es process thread dcrs false) u c) e e m n refl refl refl (quiet e);
  side = λ runs. refl;
}

pub resumes_returns : (profile : Profile) (r : Returning) (c : Core) (e : ExceptionsValue) (f : Framed) (u : Result Unstacked StackFault) → r.es ≡ false → (r.secure ≡ false → OwnFrame u)
    → Returns r.secure c e f (resumes framed profile r c e f u)
unfolding OwnFrame
resumes_returns profile r c e f (Err fault) own frame =
    chained_raised_returns profile r (refusals.Frame fault) r.secure c e f (frame_faulted false (side_of_bit r.secure) fault c e) own
    (λ is. frame_spared (side_of_bit r.secure) fault c e (nonsecure_by r.secure is) (frame is))
resumes_returns profile r c e f (Ok u) own frame =
    let raised = faulted (side_of_bit r.secure) (InvPc (side_of_bit r.secure)) c e in
    returns_cond r.secure c e f (modes_agree r u.basic) (record { core = resumed r u c; exceptions = e; held = f; result = lefts.Resumed r.secure })
    (chained_raised framed profile r (refusals.Mode (side_of_bit r.secure)) r.secure f raised)
    (record { held = refl; touched = λ t. t; spared = λ t. resumed_spared c e u r.es r.process r.thread r.dcrs r.secure t })
    (chained_raised_returns profile r (refusals.Mode (side_of_bit r.secure)) r.secure c e f raised own
    (λ is. faulted_spared (side_of_bit r.secure) (InvPc (side_of_bit r.secure)) c e (nonsecure_by r.secure is) (own_inv_pc (side_of_bit r.secure) (nonsecure_by r.secure is))))

-- ---- all of it

goes_back_returns : (profile : Profile) (r : Returning) (c : Core) (e : ExceptionsValue) (f : Framed) → r.es ≡ false → Returns false c e f (goes_back framed profile r c e f)
unfolding goes_back
goes_back_returns profile r c e f own =
    let u = unstacked framed c r f in
    returns_cond false c e f (takes_first e c.masks) (chained framed profile r None false c e f) (resumes framed profile r c e f u) (chained_returns profile r None false c e f own)
    (returns_any r.secure c e f (resumes framed profile r c e f u)
    (resumes_returns profile r c e f u own (λ is. own_unstacked c f r.es r.process r.thread r.dcrs r.secure is)))

leaves_noting_returns : (profile : Profile) (side : Side) (fault : Option Fault) (r : Returning) (c : Core) (e : ExceptionsValue) (f : Framed) → side ≡ NonSecure → r.es ≡ false → OwnSome fault
    → Returns false c e f (leaves_noting framed profile side fault r c e f)
unfolding OwnSome
leaves_noting_returns profile side (Some fault) r c e f is own exc_return_fault =
    chained_raised_returns profile r (refusals.Value fault) false c e f (faulted side fault c e) own (λ t. faulted_spared side fault c e is exc_return_fault)
leaves_noting_returns profile side None r c e f is own exc_return_fault = goes_back_returns profile r c e f own

pub own_noted : (c : Core) (e : ExceptionsValue) (value : ℕ) → c.run.side ≡ NonSecure → OwnSome (exc_return_fault c e value)
unfolding OwnSome is_own
own_noted c e value is =
    own_some (not (is_well_formed value)) _ _ (own_inv_pc c.run.side is)
    (own_some (is_forged c.run.side value) _ _ refl
    (own_some (not (is_returnable e (slot_returning c (returning_by c.run.side value)))) _ _ (own_inv_pc c.run.side is) tt))

-- ES counts as 0
no_es : (side : Side) (value : ℕ) → side ≡ NonSecure → (returning_by side value).es ≡ false
no_es Secure value is = cc
no_es NonSecure value is = refl

quiet_cond : (e : ExceptionsValue) (t : Bool) (x y : ExceptionsValue) → Quiet e x → Quiet e y → Quiet e (cond t x y)
quiet_cond e true x y h k = h
quiet_cond e false x y h k = k

deactivated_quiet : (e : ExceptionsValue) (given : Slot) → Quiet e (deactivated e given)
deactivated_quiet e given = flags_quiet e (index_of given) (at e (index_of given)).pending false

pub freed_quiet : (e : ExceptionsValue) (given : Slot) → Quiet e (freed e given)
freed_quiet e given =
    let urgent = urgent_slot e (raw_priority e) in
    quiet_cond e (is_urgent e) (deactivated e urgent) (cond (exists e given) (deactivated e given) e) (deactivated_quiet e urgent)
    (quiet_cond e (exists e given) (deactivated e given) e (deactivated_quiet e given) (quiet e))

core_returning_spared : (c : Core) (e e' : ExceptionsValue) (es process thread dcrs secure : Bool) → es ≡ false → Quiet e e' → Spared c (core_returning e (bits es process thread dcrs secure) c) e e'
core_returning_spared c e e' true process thread dcrs secure own q = absurd (cc)
core_returning_spared c e e' false process thread dcrs secure own q = record {
  kept = λ m n. kept_from c (core_returning e (bits false process thread dcrs secure) c) e e' m n refl refl refl q;
  side = λ runs. runs;
}

leaves_returns : (profile : Profile) (c : Core) (e : ExceptionsValue) (f : Framed) (value : ℕ) → c.run.side ≡ NonSecure → Returns false c e f (leaves framed profile c e f value)
unfolding leaves
leaves_returns profile c e f value is =
    let r = returning_by c.run.side value in
    let free = freed e (slot_returning c r) in
    let own = no_es c.run.side value is in
    returns_after false c (core_returning e r c) e free f (leaves framed profile c e f value)
    (λ t. core_returning_spared c e free r.es r.process r.thread r.dcrs r.secure own (freed_quiet e (slot_returning c r)))
    (leaves_noting_returns profile c.run.side (exc_return_fault c e value) r (core_returning e r c) free f is own (own_noted c e value is))

-- a return of Non-secure code writes nothing
pub leaves_still : (profile : Profile) (c : Core) (e : ExceptionsValue) (f : Framed) (value : ℕ) → c.run.side ≡ NonSecure → (leaves framed profile c e f value).held ≡ f
leaves_still profile c e f value is = (leaves_returns profile c e f value is).held

-- where it didn't look at Secure state, it kept the Secure side
pub leaves_kept : (profile : Profile) (c : Core) (e : ExceptionsValue) (f : Framed) (value : ℕ) → c.run.side ≡ NonSecure → left_touched (leaves framed profile c e f value).result ≡ false
    → KeptBy c (leaves framed profile c e f value).core e (leaves framed profile c e f value).exceptions (map_in f.bus) f.bus.memory (leaves framed profile c e f value).held.bus.memory
leaves_kept profile c e f value is untouched =
    let l = leaves framed profile c e f value in
    let h = leaves_returns profile c e f value is in
    subst (λ (g : Framed). KeptBy c l.core e l.exceptions (map_in f.bus) f.bus.memory g.bus.memory) (sym h.held) ((h.spared untouched).kept (map_in f.bus) f.bus.memory)
