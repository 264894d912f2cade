-- How entries and returns of Non-secure code get to Secure code: facts of one run.
use Rattle.std.proofs.Common.{◌≡◌, ℕ, zero, suc, ◌+◌, ◌*◌, ◌/◌, ◌%◌, ◌^◌, ◌==◌, Bool, true, false, ◌&&◌, ◌||◌, not, cond, List, [], ◌∷◌, Option, Some, None, Result, Ok, Err, refl, sym, ap, ◌∙◌, subst, inl, inr, arith}
use Rattle.std.proofs.lemmas.Bool.Decides.{nat_tests}
use Rattle.tz_table.specs.declared.units.Side.{Side}
use Rattle.tz_table.specs.declared.units.Side.TheVariants.{Secure, NonSecure}
use Rattle.tz_table.specs.declared.units.Code.{Code}
use Rattle.tz_model.specs.declared.board.Profile.{Profile}
use Rattle.tz_model.specs.declared.report.Fault.{Fault}
use Rattle.tz_model.specs.declared.report.Fault.TheVariants.{InvPc}
use Rattle.tz_model.specs.declared.report.Slot.{Slot}
use Rattle.tz_model.specs.Words.{wrap, even_of, is_nonsecure_side}
use Rattle.tz_regs.specs.declared.parts.Core.{Core}
use Rattle.tz_regs.specs.declared.parts.Registers.{Registers}
use Rattle.tz_regs.specs.declared.parts.Stacks.{Stacks}
use Rattle.tz_regs.specs.Registers.{is_handler, sp_of, pointer_of}
use Rattle.tz_state.specs.declared.request.Kind.TheVariants.{Read}
use Rattle.tz_state.specs.Memory.{Memory, word_at}
use Rattle.tz_state.specs.Slots.{ExceptionsValue}
use Rattle.tz_state.specs.Execution.{takes_first}
use Rattle.tz_state.specs.State.{State, with_core, side_of}
use Rattle.tz_frames.specs.Machine.{Framed, frame_verdict, framed_read, framed}
use Rattle.tz_frames.specs.declared.frame.StackFault.{StackFault}
use Rattle.tz_frames.specs.declared.frame.StackFault.TheVariants.{Signature}
use Rattle.tz_frames.specs.declared.frame.Basic.{Basic}
use Rattle.tz_frames.specs.declared.frame.Callee.{Callee}
use Rattle.tz_frames.specs.declared.entering.Entered.{Entered}
use Rattle.tz_frames.specs.declared.entering.Entered.TheVariants as entered
use Rattle.tz_frames.specs.declared.leaving.Returning.{Returning}
use Rattle.tz_frames.specs.declared.leaving.Unstacked.{Unstacked}
use Rattle.tz_frames.specs.declared.leaving.Left.{Left}
use Rattle.tz_frames.specs.declared.leaving.Left.TheVariants as left
use Rattle.tz_frames.specs.declared.leaving.Refusal.{Refusal}
use Rattle.tz_frames.specs.declared.leaving.Refusal.TheVariants as refusals
use Rattle.tz_frames.specs.Status.{Raised, faulted, frame_faulted}
use Rattle.tz_frames.specs.Registers.{number_in, resumed_registers}
use Rattle.tz_frames.specs.Stack.{with_sp, signature, word_answer, word_read, with_lowest_word, reads, callee_of, callee_read, signed, popped_additional, basic_of, basic_read, popped_basic}
use Rattle.tz_frames.specs.Enter.{enters, tries}
use Rattle.tz_frames.specs.Leave.{returning_by, side_of_bit, exc_return_fault, slot_returning, freed, core_returning, chaining, Leaving, left_of, chained, chained_raised, returns_privileged, return_sp, with_callee, unstacked, sp_above, resumed, modes_agree, resumes, goes_back, leaves_noting, leaves}
use Rattle.tz_frames.specs.Gate.{return_base, numbers_agree, came_back, after_second, after_first, function_returned}
use Rattle.tz_sem.specs.declared.ending.Handling.{Handling}
use Rattle.tz_sem.specs.declared.ending.Cause.TheVariants as causes
use Rattle.tz_sem.specs.declared.ending.Course.{Course}
use Rattle.tz_sem.specs.Ended.{Passed}
use Rattle.tz_sem.specs.Taking.{state_of, locks, framed_in, taken, taken_by, preempted, goes_on_at, passed_by, faults, left_by, returns, by_entry, by_value}
use Rattle.tz_sem.specs.Exchange.{core_back, back_with, touching, comes_back}
use Rattle.tz_twin.specs.Integrity.{Handles, NumbersAgree, IsCallFrame, word_above, IsUnstacked, above_frames, TookFrames, Came, ByException, ByReturn, ByUnstacking}
use Rattle.tz_twin.proofs.ReturnSpares.{bits, leaves_still}
use Rattle.tz_twin.proofs.Active.{EnteredHandles, LeftHandles, enters_handles, leaves_handles}

-- where it ends in Secure code, it came there so, with this IPSR and these Secure stacks before
abbrev pub Comes : ℕ → Stacks → Passed → Type 0
Comes ipsr stacks p = is_nonsecure_side (side_of p.state) ≡ false → p.state.core.run.locked ≡ false → Came ipsr stacks p.state p.ending.cause

comes_locks : (ipsr : ℕ) (stacks : Stacks) (s : State) (touched : Bool) (handling : Option Handling) → Comes ipsr stacks (locks s touched handling)
comes_locks ipsr stacks s touched handling = λ secure unlocked. absurd (cc)

-- ---- entry

unlocked_side : (locked : Bool) (side : Side) → locked ≡ false → is_nonsecure_side (cond locked Secure side) ≡ false → is_nonsecure_side side ≡ false
unlocked_side true side l e = cc
unlocked_side false side l e = e

pub runs_secure : (side : Side) → is_nonsecure_side side ≡ false → side ≡ Secure
runs_secure Secure e = refl
runs_secure NonSecure e = cc

comes_taken : (ipsr : ℕ) (stacks : Stacks) (s : State) (touched : Bool) (handling : Option Handling) (given : Slot) → Handles given s.core s.exceptions → Comes ipsr stacks (taken s touched handling)
comes_taken ipsr stacks s touched handling given h =
    λ secure unlocked. ByException refl given (sym h.runs ∙ runs_secure s.core.run.side (unlocked_side s.core.run.locked s.core.run.side unlocked secure))
    (record { number = h.number; runs = h.runs; side = h.side; active = h.active })

comes_taken_by : (ipsr : ℕ) (stacks : Stacks) (s : State) (course : Course) (result : Entered) → EnteredHandles s.core s.exceptions result → Comes ipsr stacks (taken_by s course result)
comes_taken_by ipsr stacks s course (entered.Taken given entry) h = comes_taken ipsr stacks s (course.touched || entry.touched) (Some (by_entry entry)) given h
comes_taken_by ipsr stacks s course (entered.Lockup entry) h = comes_locks ipsr stacks s (course.touched || entry.touched) (Some (by_entry entry))

pub comes_preempted : (ipsr : ℕ) (stacks : Stacks) (s : State) (course : Course) (back : ℕ) → Comes ipsr stacks (preempted s course back)
unfolding preempted
comes_preempted ipsr stacks s course back =
    let f = framed_in course.negative s in
    let d = enters framed s.bus.board.profile s.core s.exceptions f back in
    comes_taken_by ipsr stacks (state_of d.core d.exceptions d.held.bus) course d.result (enters_handles s.bus.board.profile s.core s.exceptions f back)

comes_cond : (ipsr : ℕ) (stacks : Stacks) (t : Bool) (p q : Passed) → Comes ipsr stacks p → Comes ipsr stacks q → Comes ipsr stacks (cond t p q)
comes_cond ipsr stacks true p q h k = h
comes_cond ipsr stacks false p q h k = k

pub comes_faults : (ipsr : ℕ) (stacks : Stacks) (s : State) (course : Course) (fault : Fault) → Comes ipsr stacks (faults s course fault)
unfolding faults
comes_faults ipsr stacks s course fault =
    let r = faulted s.core.run.side fault s.core s.exceptions in
    let entry = preempted (state_of (passed_by fault r.core) r.exceptions s.bus) course (goes_on_at fault s.core.registers.pc) in
    comes_cond ipsr stacks r.locks _ entry (comes_locks ipsr stacks (state_of r.core r.exceptions s.bus) course.touched None)
    (comes_preempted ipsr stacks (state_of (passed_by fault r.core) r.exceptions s.bus) course (goes_on_at fault s.core.registers.pc))

-- ---- a return

-- where it resumed Secure code, it took its registers from frames on the Secure stack of the mode
abbrev SignedWhere : Stacks → Memory → Core → Left → Type 0
SignedWhere stacks m c (left.Resumed touched) = is_nonsecure_side c.run.side ≡ false → TookFrames stacks c m
SignedWhere stacks m c (left.Chained given refused entry) = Unit {0}
SignedWhere stacks m c (left.Lockup refused entry) = Unit {0}

abbrev SignedBy : Stacks → Memory → Leaving Framed → Type 0
SignedBy stacks m l = SignedWhere stacks m l.core l.result

signed_cond : (stacks : Stacks) (m : Memory) (t : Bool) (x y : Leaving Framed) → (t ≡ true → SignedBy stacks m x) → SignedBy stacks m y → SignedBy stacks m (cond t x y)
signed_cond stacks m true x y h k = h refl
signed_cond stacks m false x y h k = k

signed_chained : (stacks : Stacks) (m : Memory) (profile : Profile) (r : Returning) (refused : Option Refusal) (touched : Bool) (c : Core) (e : ExceptionsValue) (f : Framed) → SignedBy stacks m (chained framed profile r refused touched c e f)
unfolding chained
signed_chained stacks m profile r refused touched c e f =
    let d = tries framed profile 4 (record { core = c; exceptions = e; held = f; entry = chaining r touched }) in go d.core d.result
  where
    go : (c : Core) (x : Entered) → SignedWhere stacks m c (left_of refused x)
    go c (entered.Taken given entry) = tt
    go c (entered.Lockup entry) = tt

signed_raised : (stacks : Stacks) (m : Memory) (profile : Profile) (r : Returning) (refusal : Refusal) (touched : Bool) (f : Framed) (raised : Raised) → SignedBy stacks m (chained_raised framed profile r refusal touched f raised)
signed_raised stacks m profile r refusal touched f raised =
    signed_cond stacks m raised.locks _ (chained framed profile r (Some refusal) touched raised.core raised.exceptions f) (λ locks. tt) (signed_chained stacks m profile r (Some refusal) touched raised.core raised.exceptions f)

-- ---- words that were read

-- the word that was read, where it was
looked_word : (v : Option Fault) (f : Framed) (a word : ℕ) → word_answer (framed_read v f a).1 ≡ Ok word → word_at f.bus.memory a ≡ word
looked_word None f a word e = cc
looked_word (Some fault) f a word e = cc

-- so many words, one above the other, from so far above an address
abbrev words_above : Memory → ℕ → ℕ → ℕ → List ℕ
words_above m sp k zero = []
words_above m sp k (suc n) = word_above m sp k ∷ words_above m sp (k + 4) n

next_word : (sp k : ℕ) → wrap (wrap (sp + k) + 4) ≡ wrap (sp + (k + 4))
next_word sp k = omega arith

-- a first word and those behind it
record Split (x : Result ℕ StackFault) (y : Result (List ℕ) StackFault) (words : List ℕ) : Type 0 where
  pub word : ℕ
  pub more : List ℕ
  pub first : x ≡ Ok word
  pub later : y ≡ Ok more
  pub whole : words ≡ word ∷ more

split : (x : Result ℕ StackFault) (y : Result (List ℕ) StackFault) (words : List ℕ) → with_lowest_word x y ≡ Ok words → Split x y words
split (Err fault) y words e = cc
split (Ok word) (Err fault) words e = cc
split (Ok word) (Ok more) words e = record { word = word; more = more; first = refl; later = refl; whole = cc }

read_above : (f : Framed) (side : Side) (privileged : Bool) (sp k n : ℕ) (words : List ℕ) → reads framed side privileged f (wrap (sp + k)) n ≡ Ok words → words ≡ words_above f.bus.memory sp k n
unfolding reads
read_above f side privileged sp k zero words e = cc
read_above f side privileged sp k (suc n) words e =
    let s = split (word_read framed side privileged f (wrap (sp + k))) (reads framed side privileged f (wrap (wrap (sp + k) + 4)) n) words e in
    let first : word_at f.bus.memory (wrap (sp + k)) ≡ s.word = looked_word (frame_verdict f Read (wrap (sp + k)) side privileged) f (wrap (sp + k)) s.word s.first in
    let later : s.more ≡ words_above f.bus.memory sp (k + 4) n =
    read_above f side privileged sp (k + 4) n s.more (subst (λ (a : ℕ). reads framed side privileged f a n ≡ Ok s.more) (next_word sp k) s.later) in
    s.whole ∙ (λ i. sym first i ∷ later i)

-- ---- the frames

signed_when : (t : Bool) (word : ℕ) (later : Result (List ℕ) StackFault) (k : Callee) → (word == signature) ≡ t → cond t (callee_read later) (Err Signature) ≡ Ok k → (word ≡ signature) × (callee_read later ≡ Ok k)
signed_when true word later k is h = (grind (arith, nat_tests), h)
signed_when false word later k is h = cc

-- the additional frame was read, behind the signature
record Popped (f : Framed) (sp : ℕ) (k : Callee) : Type 0 where
  pub signed : word_at f.bus.memory sp ≡ signature
  pub callee : k ≡ callee_of (words_above f.bus.memory sp 4 9)

popped_callee : (x : Result (List ℕ) StackFault) (k : Callee) → callee_read x ≡ Ok k → (words : List ℕ) × ((x ≡ Ok words) × (k ≡ callee_of words))
popped_callee (Ok words) k e = (words, (refl, cc))
popped_callee (Err fault) k e = cc

popped_signed : (f : Framed) (sp : ℕ) (privileged : Bool) (x : Result ℕ StackFault) (k : Callee) → word_read framed Secure privileged f sp ≡ x
    → signed x (reads framed Secure privileged f (wrap (sp + 4)) 9) ≡ Ok k → Popped f sp k
popped_signed f sp privileged (Err fault) k is e = cc
popped_signed f sp privileged (Ok word) k is e =
    let h = signed_when (word == signature) word (reads framed Secure privileged f (wrap (sp + 4)) 9) k refl e in
    let c = popped_callee (reads framed Secure privileged f (wrap (sp + 4)) 9) k h.1 in
    record {
      signed = looked_word (frame_verdict f Read sp Secure privileged) f sp word is ∙ h.0;
      callee = c.1.1 ∙ ap callee_of (read_above f Secure privileged sp 4 9 c.0 c.1.0);
    }

popped_words : (x : Result (List ℕ) StackFault) (b : Basic) → basic_read x ≡ Ok b → (words : List ℕ) × ((x ≡ Ok words) × (b ≡ basic_of words))
popped_words (Ok words) b e = (words, (refl, cc))
popped_words (Err fault) b e = cc

-- and so was the basic frame above it
popped_above : (f : Framed) (sp : ℕ) (privileged : Bool) (b : Basic) → popped_basic framed f (wrap (sp + 40)) Secure privileged ≡ Ok b → b ≡ basic_of (words_above f.bus.memory sp 40 8)
popped_above f sp privileged b e =
    let w = popped_words (reads framed Secure privileged f (wrap (sp + 40)) 8) b e in w.1.1 ∙ ap basic_of (read_above f Secure privileged sp 40 8 w.0 w.1.0)

record Both (x : Result Callee StackFault) (y : Result Basic StackFault) (u : Unstacked) : Type 0 where
  pub callee : Callee
  pub basic : Basic
  pub first : x ≡ Ok callee
  pub second : y ≡ Ok basic
  pub whole : u ≡ record { callee = Some callee; basic = basic }

both_read : (x : Result Callee StackFault) (y : Result Basic StackFault) (u : Unstacked) → with_callee x y ≡ Ok u → Both x y u
both_read (Ok k) (Ok b) u e = record { callee = k; basic = b; first = refl; second = refl; whole = cc }
both_read (Ok k) (Err fault) u e = cc
both_read (Err fault) y u e = cc

-- the registers of what was unstacked from these words
unstacked_registers : (m : Memory) (sp : ℕ) (old : Registers) (k : Callee) (b : Basic) → word_at m sp ≡ signature → k ≡ callee_of (words_above m sp 4 9) → b ≡ basic_of (words_above m sp 40 8)
    → IsUnstacked m sp (resumed_registers old (Some k) b)
unstacked_registers m sp old k b first callee basic =
    subst (λ (x : Callee). IsUnstacked m sp (resumed_registers old (Some x) b)) (sym callee)
    (subst (λ (x : Basic). IsUnstacked m sp (resumed_registers old (Some (callee_of (words_above m sp 4 9))) x)) (sym basic)
    (record { signed = first; general = refl; lr = refl; pc = refl; psr = record { flags = refl; t = refl; it = refl; number = refl } }))

-- what was unstacked has the registers of the frames, and both of them lie below the new stack pointer
record HasFrames (m : Memory) (sp : ℕ) (old : Registers) (u : Unstacked) : Type 0 where
  pub frames : IsUnstacked m sp (resumed_registers old u.callee u.basic)
  pub above : sp_above sp u ≡ above_frames m sp

-- Secure code that Non-secure code returns to has an additional frame
unstacked_signed : (c : Core) (f : Framed) (es process thread dcrs : Bool) (u : Unstacked) → es ≡ false → unstacked framed c (bits es process thread dcrs true) f ≡ Ok u
    → HasFrames f.bus.memory (return_sp c (bits es process thread dcrs true)) c.registers u
unfolding unstacked
unstacked_signed c f true process thread dcrs u own e = cc
unstacked_signed c f false process thread dcrs u own e =
    let r = bits false process thread dcrs true in
    let sp = return_sp c r in
    let both = both_read (popped_additional framed f sp (returns_privileged c r)) (popped_basic framed f (wrap (sp + 40)) Secure (returns_privileged c r)) u e in
    let popped = popped_signed f sp (returns_privileged c r) (word_read framed Secure (returns_privileged c r) f sp) both.callee refl both.first in
    let basic = popped_above f sp (returns_privileged c r) both.basic both.second in
    subst (λ (v : Unstacked). HasFrames f.bus.memory sp c.registers v) (sym both.whole)
    (record {
      frames = unstacked_registers f.bus.memory sp c.registers both.callee both.basic popped.signed popped.callee basic;
      above = ap (λ (b : Basic). wrap (sp + 72 + 4 * (b.retpsr / 2 ^ 9 % 2))) basic;
    })

-- Mode agrees with the number, so that the stack is the one of the mode that goes on
mode_of : (thread zero : Bool) → cond thread zero (not zero) ≡ true → thread ≡ not (not zero)
mode_of true true e = refl
mode_of true false e = cc
mode_of false true e = cc
mode_of false false e = refl

-- the pointer that was put is the one in use
pointer_put : (process : Bool) (value : ℕ) (s : Stacks) → cond process (with_sp process value s).psp (with_sp process value s).msp ≡ value
pointer_put true value s = refl
pointer_put false value s = refl

took_frames : (c : Core) (f : Framed) (es process thread dcrs : Bool) (u : Unstacked) → thread ≡ not (is_handler (number_in u.basic.retpsr)) → HasFrames f.bus.memory (return_sp c (bits es process thread dcrs true)) c.registers u
    → TookFrames c.stacks_s (resumed (bits es process thread dcrs true) u c) f.bus.memory
took_frames c f es process thread dcrs u mode h = go thread (sym mode) h where
  ipsr : ℕ
  ipsr = number_in u.basic.retpsr

  go : (t : Bool) → not (is_handler ipsr) ≡ t → HasFrames f.bus.memory (return_sp c (bits es process t dcrs true)) c.registers u → TookFrames c.stacks_s (resumed (bits es process t dcrs true) u c) f.bus.memory
  go t same g =
      subst (λ (x : Bool). HasFrames f.bus.memory (sp_of (x && c.stacks_s.spsel) c.stacks_s) c.registers u → TookFrames c.stacks_s (resumed (bits es process x dcrs true) u c) f.bus.memory) same
      (λ k. record { frames = k.frames; pointer = pointer_put (not (is_handler ipsr) && c.stacks_s.spsel) (sp_above (pointer_of ipsr c.stacks_s) u) c.stacks_s ∙ k.above }) g

resumed_signed : (c : Core) (f : Framed) (es process thread dcrs secure : Bool) (u : Unstacked) → es ≡ false → unstacked framed c (bits es process thread dcrs secure) f ≡ Ok u
    → modes_agree (bits es process thread dcrs secure) u.basic ≡ true → is_nonsecure_side (side_of_bit secure) ≡ false
    → TookFrames c.stacks_s (resumed (bits es process thread dcrs secure) u c) f.bus.memory
resumed_signed c f es process thread dcrs true u own e agree is =
    took_frames c f es process thread dcrs u (mode_of thread (number_in u.basic.retpsr == 0) agree) (unstacked_signed c f es process thread dcrs u own e)
resumed_signed c f es process thread dcrs false u own e agree is = cc

resumes_signed : (profile : Profile) (r : Returning) (c : Core) (e : ExceptionsValue) (f : Framed) (u : Result Unstacked StackFault) → r.es ≡ false → unstacked framed c r f ≡ u
    → SignedBy c.stacks_s f.bus.memory (resumes framed profile r c e f u)
resumes_signed profile r c e f (Err fault) own is = signed_raised c.stacks_s f.bus.memory profile r (refusals.Frame fault) r.secure f (frame_faulted false (side_of_bit r.secure) fault c e)
resumes_signed profile r c e f (Ok u) own is =
    let raised = faulted (side_of_bit r.secure) (InvPc (side_of_bit r.secure)) c e in
    signed_cond c.stacks_s f.bus.memory (modes_agree r u.basic) _ (chained_raised framed profile r (refusals.Mode (side_of_bit r.secure)) r.secure f raised)
    (λ agree secure. resumed_signed c f r.es r.process r.thread r.dcrs r.secure u own is agree secure) (signed_raised c.stacks_s f.bus.memory profile r (refusals.Mode (side_of_bit r.secure)) r.secure f raised)

goes_back_signed : (profile : Profile) (r : Returning) (c : Core) (e : ExceptionsValue) (f : Framed) → r.es ≡ false → SignedBy c.stacks_s f.bus.memory (goes_back framed profile r c e f)
unfolding goes_back
goes_back_signed profile r c e f own =
    signed_cond c.stacks_s f.bus.memory (takes_first e c.masks) (chained framed profile r None false c e f) (resumes framed profile r c e f (unstacked framed c r f))
    (λ takes. signed_chained c.stacks_s f.bus.memory profile r None false c e f) (resumes_signed profile r c e f (unstacked framed c r f) own refl)

noting_signed : (profile : Profile) (side : Side) (fault : Option Fault) (r : Returning) (c : Core) (e : ExceptionsValue) (f : Framed) → r.es ≡ false
    → SignedBy c.stacks_s f.bus.memory (leaves_noting framed profile side fault r c e f)
noting_signed profile side (Some fault) r c e f own = signed_raised c.stacks_s f.bus.memory profile r (refusals.Value fault) false f (faulted side fault c e)
noting_signed profile side None r c e f own = goes_back_signed profile r c e f own

-- a return of Non-secure code leaves the Secure stacks alone until then
core_returning_stacks : (e : ExceptionsValue) (c : Core) (es process thread dcrs secure : Bool) → es ≡ false → (core_returning e (bits es process thread dcrs secure) c).stacks_s ≡ c.stacks_s
core_returning_stacks e c true process thread dcrs secure own = cc
core_returning_stacks e c false process thread dcrs secure own = refl

no_es : (side : Side) (value : ℕ) → side ≡ NonSecure → (returning_by side value).es ≡ false
no_es Secure value is = cc
no_es NonSecure value is = refl

leaves_signed : (profile : Profile) (c : Core) (e : ExceptionsValue) (f : Framed) (value : ℕ) → c.run.side ≡ NonSecure → SignedBy c.stacks_s f.bus.memory (leaves framed profile c e f value)
unfolding leaves
leaves_signed profile c e f value is =
    let r = returning_by c.run.side value in
    let own = no_es c.run.side value is in
    subst (λ (t : Stacks). SignedBy t f.bus.memory (leaves_noting framed profile c.run.side (exc_return_fault c e value) r (core_returning e r c) (freed e (slot_returning c r)) f))
    (core_returning_stacks e c r.es r.process r.thread r.dcrs r.secure own)
    (noting_signed profile c.run.side (exc_return_fault c e value) r (core_returning e r c) (freed e (slot_returning c r)) f own)

came_signed : (ipsr : ℕ) (stacks : Stacks) (s : State) (m : Memory) → s.bus.memory ≡ m → TookFrames stacks s.core m → Came ipsr stacks s causes.Resumed
came_signed ipsr stacks s m same h = ByUnstacking refl (subst (λ (n : Memory). TookFrames stacks s.core n) (sym same) h)

comes_left_by : (ipsr : ℕ) (stacks : Stacks) (s : State) (m : Memory) (course : Course) (code : Code) (value : ℕ) (result : Left) → s.bus.memory ≡ m → SignedWhere stacks m s.core result → LeftHandles s.core s.exceptions result → Comes ipsr stacks (left_by s course code value result)
comes_left_by ipsr stacks s m course code value (left.Resumed touched) same h g =
    λ secure unlocked. came_signed ipsr stacks _ m same (h (unlocked_side s.core.run.locked s.core.run.side unlocked secure))
comes_left_by ipsr stacks s m course code value (left.Chained given refused entry) same h g = comes_taken ipsr stacks s (course.touched || entry.touched) (Some (by_value value refused (Some entry))) given g
comes_left_by ipsr stacks s m course code value (left.Lockup refused entry) same h g = comes_locks ipsr stacks s (course.touched || entry.touched) (Some (by_value value refused (Some entry)))

pub comes_returns : (ipsr : ℕ) (s : State) (course : Course) (code : Code) (value : ℕ) → s.core.run.side ≡ NonSecure → Comes ipsr s.core.stacks_s (returns s course code value)
unfolding returns
comes_returns ipsr s course code value is =
    let f = framed_in course.negative s in
    let l = leaves framed s.bus.board.profile s.core s.exceptions f value in
    comes_left_by ipsr s.core.stacks_s (state_of l.core l.exceptions l.held.bus) s.bus.memory course code value l.result
    (ap (λ (g : Framed). g.bus.memory) (leaves_still s.bus.board.profile s.core s.exceptions f value is)) (leaves_signed s.bus.board.profile s.core s.exceptions f value is)
    (leaves_handles s.bus.board.profile s.core s.exceptions f value)

-- ---- FNC_RETURN

not_zero : (n : ℕ) → (n == 0) ≡ false → n ≡ 0 → ⊥
not_zero n e z = grind (arith, nat_tests)

-- the test of both numbers, in words
agreed : (ipsr number : ℕ) → numbers_agree ipsr number ≡ true → NumbersAgree ipsr number
agreed ipsr number h = go (ipsr == 0) refl (ipsr == 1) refl (number == 0) refl h where
  go : (zero : Bool) → (ipsr == 0) ≡ zero → (one : Bool) → (ipsr == 1) ≡ one → (none : Bool) → (number == 0) ≡ none → cond zero none (one && not none) ≡ true → NumbersAgree ipsr number
  go true z one o true n h = inl (grind (arith, nat_tests), grind (arith, nat_tests))
  go true z one o false n h = cc
  go false z true o false n h = inr (grind (arith, nat_tests), not_zero number n)
  go false z true o true n h = cc
  go false z false o none n h = cc

abbrev CalledFrom : Core → Memory → Result Core Fault → Type 0
CalledFrom c m (Ok back) = IsCallFrame c.registers.ipsr c.stacks_s back m
CalledFrom c m (Err fault) = Unit {0}

second_called : (c : Core) (m : Memory) (v : Option Fault) (f : Framed) (back a : ℕ) → f.bus.memory ≡ m → a ≡ wrap (return_base c + 4) → back ≡ word_at m (return_base c) → CalledFrom c m (after_second c back (framed_read v f a).1)
second_called c m (Some fault) f back a same at is = tt
second_called c m None f back a same at is = go (numbers_agree c.registers.ipsr number) refl where
  number : ℕ
  number = word_at f.bus.memory a % 2 ^ 9

  above : number ≡ word_at m (wrap (return_base c + 4)) % 2 ^ 9
  above = ap (λ (n : ℕ). n % 2 ^ 9) (λ i. word_at (same i) (at i))

  go : (t : Bool) → numbers_agree c.registers.ipsr number ≡ t → CalledFrom c m (cond t (Ok (came_back c back number)) (Err (InvPc c.run.side)))
  go true agree =
      record { pc = ap even_of is; t = ap (λ (n : ℕ). n % 2 == 1) is; it = refl; pointer = refl; number = above; agree = subst (λ (n : ℕ). NumbersAgree c.registers.ipsr n) above (agreed c.registers.ipsr number agree) }
  go false agree = tt

first_called : (c : Core) (m : Memory) (v w : Option Fault) (f : Framed) → f.bus.memory ≡ m → CalledFrom c m (after_first c (framed_read v f (return_base c)).1 (framed_read w f (wrap (return_base c + 4))).1)
first_called c m (Some fault) w f same = tt
first_called c m None w f same = second_called c m w f (word_at f.bus.memory (return_base c)) (wrap (return_base c + 4)) same refl (ap (λ (n : Memory). word_at n (return_base c)) same)

comes_back_with : (before : Core) (s : State) (course : Course) (code : Code) (r : Result Core Fault) → CalledFrom s.core s.bus.memory r → Comes s.core.registers.ipsr s.core.stacks_s (back_with before s course code r)
comes_back_with before s course code (Ok c) h = λ secure unlocked. ByReturn refl h
comes_back_with before s course code (Err fault) h = comes_faults s.core.registers.ipsr s.core.stacks_s (with_core s (core_back before s.core)) course fault

pub comes_comes_back : (before : Core) (s : State) (course : Course) (code : Code) (value : ℕ) → Comes s.core.registers.ipsr s.core.stacks_s (comes_back before s course code value)
unfolding comes_back
comes_comes_back before s course code value =
    let f = framed_in course.negative s in
    comes_back_with before s (touching course) code (function_returned framed s.core f)
    (first_called s.core s.bus.memory (frame_verdict f Read (return_base s.core) Secure f.secure_privileged) (frame_verdict f Read (wrap (return_base s.core + 4)) Secure f.secure_privileged) f refl)
