-- What an entry that takes a Non-secure exception leaves of a Secure stack.
use Rattle.std.proofs.Common.{◌≡◌, ℕ, zero, suc, ◌+◌, ◌-◌, ◌^◌, Bool, true, false, ◌&&◌, ◌||◌, not, cond, Option, Some, None, Result, Ok, Err, refl, sym, ap, ◌∙◌, subst}
use Rattle.std.specs.Prelude.{nat_lt}
use Rattle.tz_table.specs.declared.units.Side.{Side}
use Rattle.tz_table.specs.declared.units.Side.TheVariants.{Secure, NonSecure}
use Rattle.tz_model.specs.declared.board.Profile.{Profile}
use Rattle.tz_model.specs.declared.report.Fault.{Fault}
use Rattle.tz_model.specs.declared.report.Slot.{Slot}
use Rattle.tz_model.specs.Words.{wrap, is_nonsecure_side}
use Rattle.tz_regs.specs.declared.parts.Core.{Core}
use Rattle.tz_regs.specs.declared.parts.Registers.{Registers}
use Rattle.tz_regs.specs.declared.parts.Stacks.{Stacks}
use Rattle.tz_regs.specs.Banks.{secure_after}
use Rattle.tz_regs.specs.Registers.{sp_of}
use Rattle.tz_state.specs.Priority.{chosen}
use Rattle.tz_state.specs.Slots.{ExceptionsValue}
use Rattle.tz_frames.specs.declared.entering.FrameFault.{FrameFault}
use Rattle.tz_frames.specs.declared.entering.Entering.{Entering}
use Rattle.tz_frames.specs.declared.entering.Entered.TheVariants as entered
use Rattle.tz_frames.specs.declared.frame.StackFault.{StackFault}
use Rattle.tz_frames.specs.declared.frame.StackFault.TheVariants.{Limit}
use Rattle.tz_frames.specs.FrameAccess.{Vector}
use Rattle.tz_frames.specs.Machine.{Framed, framed}
use Rattle.tz_frames.specs.Stack.{Pushed, pushed_with, pushed_additional, with_side_sp, splim_of, written, callee_words}
use Rattle.tz_frames.specs.Enter.{Work, Chosen, Done, goes_on, locked_up, tries, choosing, choosing_from, taking, needs_additional, stacked, stacked_by, with_additional, vector_touched, vectored, vectored_by, vector_failed, vector_choice, can_be_hard_fault, callee_process, callee_privileged, interrupted, enters, begins}
use Rattle.tz_resume.specs.Resumption.{basic_pushed, both_pushed}

-- ---- the additional frame doesn't hang on what an entry changes besides

abbrev with_parts : Core → Stacks → Registers → Core
with_parts c s r = record c { stacks_s = s; registers = r }

record Alike (p q : Pushed Framed) : Type 0 where
  fault : p.fault ≡ q.fault
  held : p.held ≡ q.held
  stacks : p.core.stacks_s ≡ q.core.stacks_s

alike : (c c' : Core) (s : Stacks) (r : Registers) (f : Framed) (process privileged : Bool)
    → Alike (pushed_additional framed (with_parts c s r) f process privileged) (pushed_additional framed (with_parts c' s r) f process privileged)
unfolding pushed_additional
alike c c' s r f process privileged = go (nat_lt base (splim_of process s)) where
  base : ℕ
  base = wrap (sp_of process s + (2 ^ 32 - 40))

  low : Core → Pushed Framed
  low k = record { core = with_side_sp Secure process (splim_of process s) (with_parts k s r); held = f; fault = Some (Limit Secure) }

  high : Core → Pushed Framed
  high k = pushed_with (with_side_sp Secure process base (with_parts k s r)) (written framed Secure privileged f base (callee_words r.general))

  go : (t : Bool) → Alike (cond t (low c) (high c)) (cond t (low c') (high c'))
  go true = record { fault = refl; held = refl; stacks = refl }
  go false = record { fault = refl; held = refl; stacks = refl }

-- ---- what the choices keep

-- the end of an entry that takes a Non-secure exception
abbrev pub Ends : Stacks → Framed → Done Framed → Type 0
Ends s h d = (given : Slot) (x : Entering) → d.result ≡ entered.Taken given x → is_nonsecure_side d.core.run.side ≡ true → (d.core.stacks_s ≡ s) × (d.held ≡ h)

-- both frames are written
record Written (s : Stacks) (h : Framed) (w : Work Framed) : Type 0 where
  stacks : w.core.stacks_s ≡ s
  held : w.held ≡ h
  skip : w.entry.skip ≡ true

-- the basic one alone is
record Unwritten (c : Core) (h : Framed) (mode : Bool) (w : Work Framed) : Type 0 where
  stacks : w.core.stacks_s ≡ c.stacks_s
  registers : w.core.registers ≡ c.registers
  held : w.held ≡ h
  secure : w.entry.secure ≡ true
  thread : w.entry.thread ≡ mode
  skip : w.entry.skip ≡ false

other_side : (side : Side) (own s : Stacks) → is_nonsecure_side side ≡ true → secure_after side own s ≡ s
other_side Secure own s e = cc
other_side NonSecure own s e = refl

locked_ends : (s : Stacks) (h : Framed) (w : Work Framed) → Ends s h (locked_up w)
locked_ends s h w given touched e nonsecure = cc

-- after a vector
vectored_written : (profile : Profile) (s : Stacks) (h : Framed) (again : Work Framed → Done Framed) (w : Work Framed) (given : Slot) → ((w' : Work Framed) → Written s h w' → Ends s h (again w')) → Written s h w
    → Ends s h (goes_on again (vectored framed profile w given).work (vectored framed profile w given).choice)
unfolding vectored vector_failed
vectored_written profile s h again w given induction k = go (framed w.held (Vector given.number given.side)).1 where
  x : Work Framed
  x = record w { entry = vector_touched w.entry given.side }

  harden : (t : Bool) → Ends s h (goes_on again (vector_failed x given).work (vector_choice t))
  harden true = induction (vector_failed x given).work (record { stacks = k.stacks; held = k.held; skip = k.skip })
  harden false = locked_ends s h (vector_failed x given).work

  go : (v : Result ℕ Fault) → Ends s h (goes_on again (vectored_by profile x given v).work (vectored_by profile x given v).choice)
  go (Ok vector) given' touched e nonsecure =
      (other_side given.side _ w.core.stacks_s nonsecure ∙ k.stacks, k.held)
  go (Err fault) given' touched e nonsecure = harden (can_be_hard_fault x.core x.exceptions given) given' touched e nonsecure

-- a Secure exception is taken, or the choice is made again
vectored_unwritten : (profile : Profile) (c : Core) (f : Framed) (thread : Bool) (s : Stacks) (h : Framed) (again : Work Framed → Done Framed) (w : Work Framed) (given : Slot) → is_nonsecure_side given.side ≡ false
    → ((w' : Work Framed) → Unwritten c f thread w' → Ends s h (again w')) → Unwritten c f thread w
    → Ends s h (goes_on again (vectored framed profile w given).work (vectored framed profile w given).choice)
unfolding vectored vector_failed
vectored_unwritten profile c f thread s h again w given is_secure induction k = go (framed w.held (Vector given.number given.side)).1 where
  x : Work Framed
  x = record w { entry = vector_touched w.entry given.side }

  harden : (t : Bool) → Ends s h (goes_on again (vector_failed x given).work (vector_choice t))
  harden true = induction (vector_failed x given).work (record { stacks = k.stacks; registers = k.registers; held = k.held; secure = k.secure; thread = k.thread; skip = k.skip })
  harden false = locked_ends s h (vector_failed x given).work

  go : (v : Result ℕ Fault) → Ends s h (goes_on again (vectored_by profile x given v).work (vectored_by profile x given v).choice)
  go (Ok vector) given' touched e nonsecure =
      let wrong : false ≡ true = sym is_secure ∙ nonsecure in
      cc
  go (Err fault) given' touched e nonsecure = harden (can_be_hard_fault x.core x.exceptions given) given' touched e nonsecure

-- ---- a choice

none_faulted : (profile : Profile) (w : Work Framed) (given : Slot) (first : Option FrameFault) (x : Option StackFault) → x ≡ None → stacked_by framed profile w given first x ≡ vectored framed profile w given
none_faulted profile w given (Some first) None e = refl
none_faulted profile w given None None e = refl
none_faulted profile w given first (Some fault) e = cc

and_no : (p : Bool) → (p && false) ≡ false
and_no true = refl
and_no false = refl

-- what a choice comes to
abbrev Comes : Stacks → Framed → (Work Framed → Done Framed) → Chosen Framed → Type 0
Comes s h again c = Ends s h (goes_on again c.work c.choice)

taking_written : (profile : Profile) (s : Stacks) (h : Framed) (again : Work Framed → Done Framed) (w : Work Framed) (given : Slot) → ((w' : Work Framed) → Written s h w' → Ends s h (again w')) → Written s h w
    → Comes s h again (taking framed profile w given)
unfolding taking
taking_written profile s h again w given induction k =
    let off : (needs_additional w.entry given && not w.entry.skip) ≡ false = ap (λ (t : Bool). needs_additional w.entry given && not t) k.skip ∙ and_no (needs_additional w.entry given) in
    let w' : Work Framed = record w { entry = record w.entry { needed_additional = w.entry.needed_additional || needs_additional w.entry given } } in
    subst (λ (t : Bool). Comes s h again (cond t (stacked framed profile w given (pushed_additional framed w.core w.held (callee_process w.core w.entry) (callee_privileged w.core w.entry))) (vectored framed profile w' given)))
    (sym off) (vectored_written profile s h again w' given induction (record { stacks = k.stacks; held = k.held; skip = k.skip }))

-- the additional frame of Secure code with these stacks and registers
abbrev frame_of : Core → Framed → Entering → Pushed Framed
frame_of c h x = pushed_additional framed c h (callee_process c x) (callee_privileged c x)

same_frame : (c : Core) (h : Framed) (x : Entering) (w : Work Framed) → Unwritten c h x.thread w → Alike (frame_of w.core w.held w.entry) (frame_of c h x)
same_frame c h x w k =
    let step0 = λ (t : Bool). pushed_additional framed w.core w.held (t && w.core.stacks_s.spsel) (not t || not w.core.stacks_s.npriv) in
    let step1 = λ (g : Framed). pushed_additional framed w.core g (x.thread && w.core.stacks_s.spsel) (not x.thread || not w.core.stacks_s.npriv) in
    let step2 = λ (s : Stacks). pushed_additional framed (with_parts w.core s w.core.registers) h (x.thread && s.spsel) (not x.thread || not s.npriv) in
    let step3 = λ (r : Registers). pushed_additional framed (with_parts w.core c.stacks_s r) h (callee_process c x) (callee_privileged c x) in
    let e : frame_of w.core w.held w.entry ≡ step3 c.registers = ap step0 k.thread ∙ ap step1 k.held ∙ ap step2 k.stacks ∙ ap step3 k.registers in
    subst (λ (p : Pushed Framed). Alike p (frame_of c h x)) (sym e) (alike w.core c c.stacks_s c.registers h (callee_process c x) (callee_privileged c x))

taking_unwritten : (profile : Profile) (c : Core) (f : Framed) (x : Entering) (again : Work Framed → Done Framed) (w : Work Framed) (given : Slot) → (frame_of c f x).fault ≡ None
    → ((w' : Work Framed) → Written (frame_of c f x).core.stacks_s (frame_of c f x).held w' → Ends (frame_of c f x).core.stacks_s (frame_of c f x).held (again w'))
    → ((w' : Work Framed) → Unwritten c f x.thread w' → Ends (frame_of c f x).core.stacks_s (frame_of c f x).held (again w'))
    → Unwritten c f x.thread w → Comes (frame_of c f x).core.stacks_s (frame_of c f x).held again (taking framed profile w given)
unfolding taking
taking_unwritten profile c f x again w given none later same k = by (is_nonsecure_side given.side) refl where
  s : Stacks
  s = (frame_of c f x).core.stacks_s

  h : Framed
  h = (frame_of c f x).held

  p : Pushed Framed
  p = frame_of w.core w.held w.entry

  a : Alike p (frame_of c f x)
  a = same_frame c f x w k

  w1 : Work Framed
  w1 = record w { core = p.core; held = p.held; entry = with_additional w.entry }

  w2 : Work Framed
  w2 = record w { entry = record w.entry { needed_additional = w.entry.needed_additional || needs_additional w.entry given } }

  frame : Comes s h again (stacked framed profile w given p)
  frame =
      subst (λ (d : Chosen Framed). Comes s h again d) (sym (none_faulted profile w1 given w.entry.frame p.fault (a.fault ∙ none)))
      (vectored_written profile s h again w1 given later (record { stacks = a.stacks; held = a.held; skip = refl }))

  by : (t : Bool) → is_nonsecure_side given.side ≡ t → Comes s h again (cond (needs_additional w.entry given && not w.entry.skip) (stacked framed profile w given p) (vectored framed profile w2 given))
  by true e =
      let on : (needs_additional w.entry given && not w.entry.skip) ≡ true = rw (k.secure, k.skip, e) refl in
      subst (λ (t : Bool). Comes s h again (cond t (stacked framed profile w given p) (vectored framed profile w2 given))) (sym on) frame
  by false e =
      let off : (needs_additional w.entry given && not w.entry.skip) ≡ false = rw (k.secure, k.skip, e) refl in
      subst (λ (t : Bool). Comes s h again (cond t (stacked framed profile w given p) (vectored framed profile w2 given))) (sym off)
      (vectored_unwritten profile c f x.thread s h again w2 given e same
      (record { stacks = k.stacks; registers = k.registers; held = k.held; secure = k.secure; thread = k.thread; skip = k.skip }))

-- ---- all choices

choosing_written : (profile : Profile) (s : Stacks) (h : Framed) (again : Work Framed → Done Framed) (w : Work Framed) → ((w' : Work Framed) → Written s h w' → Ends s h (again w')) → Written s h w
    → Comes s h again (choosing framed profile w)
unfolding choosing
choosing_written profile s h again w induction k = by (chosen w.exceptions) where
  by : (o : Option Slot) → Comes s h again (choosing_from framed profile w o)
  by None = locked_ends s h w
  by (Some given) = taking_written profile s h again w given induction k

choosing_unwritten : (profile : Profile) (c : Core) (f : Framed) (x : Entering) (again : Work Framed → Done Framed) (w : Work Framed) → (frame_of c f x).fault ≡ None
    → ((w' : Work Framed) → Written (frame_of c f x).core.stacks_s (frame_of c f x).held w' → Ends (frame_of c f x).core.stacks_s (frame_of c f x).held (again w'))
    → ((w' : Work Framed) → Unwritten c f x.thread w' → Ends (frame_of c f x).core.stacks_s (frame_of c f x).held (again w'))
    → Unwritten c f x.thread w → Comes (frame_of c f x).core.stacks_s (frame_of c f x).held again (choosing framed profile w)
unfolding choosing
choosing_unwritten profile c f x again w none later same k = by (chosen w.exceptions) where
  by : (o : Option Slot) → Comes (frame_of c f x).core.stacks_s (frame_of c f x).held again (choosing_from framed profile w o)
  by None = locked_ends (frame_of c f x).core.stacks_s (frame_of c f x).held w
  by (Some given) = taking_unwritten profile c f x again w given none later same k

tries_written : (profile : Profile) (s : Stacks) (h : Framed) (n : ℕ) (w : Work Framed) → Written s h w → Ends s h (tries framed profile n w)
unfolding tries
tries_written profile s h zero w k = locked_ends s h w
tries_written profile s h (suc n) w k = choosing_written profile s h (tries framed profile n) w (λ w' k'. tries_written profile s h n w' k') k

tries_unwritten : (profile : Profile) (c : Core) (f : Framed) (x : Entering) (n : ℕ) (w : Work Framed) → (frame_of c f x).fault ≡ None → Unwritten c f x.thread w → Ends (frame_of c f x).core.stacks_s (frame_of c f x).held (tries framed profile n w)
unfolding tries
tries_unwritten profile c f x zero w none k = locked_ends (frame_of c f x).core.stacks_s (frame_of c f x).held w
tries_unwritten profile c f x (suc n) w none k =
    choosing_unwritten profile c f x (tries framed profile n) w none (λ w' k'. tries_written profile (frame_of c f x).core.stacks_s (frame_of c f x).held n w' k')
    (λ w' k'. tries_unwritten profile c f x n w' none k') k

-- an entry that takes a Non-secure exception, and whose frames don't fault, leaves both
pub entry_leaves : (profile : Profile) (c : Core) (e : ExceptionsValue) (f : Framed) (back : ℕ) → c.run.side ≡ Secure → (basic_pushed c f back).fault ≡ None → (both_pushed c f back).fault ≡ None
    → Ends (both_pushed c f back).core.stacks_s (both_pushed c f back).held (enters framed profile c e f back)
unfolding enters
entry_leaves profile c e f back secure none none' =
    let p = basic_pushed c f back in
    let w : Work Framed = record { core = p.core; exceptions = e; held = p.held; entry = interrupted c } in
    let is_secure_code : (interrupted c).secure ≡ true = ap (λ (side : Side). not (is_nonsecure_side side)) secure in
    let k : Unwritten p.core p.held (interrupted c).thread w = record { stacks = refl; registers = refl; held = refl; secure = is_secure_code; thread = refl; skip = refl } in
    subst (λ (x : Option StackFault). Ends (both_pushed c f back).core.stacks_s (both_pushed c f back).held (begins framed profile c.run.side e (interrupted c) p.core p.held x)) (sym none)
    (tries_unwritten profile p.core p.held (interrupted c) 4 w none' k)
