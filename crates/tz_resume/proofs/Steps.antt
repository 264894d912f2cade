-- Steps that interrupt Secure code, and steps that let it go on.
use Rattle.std.proofs.Common.{◌<◌, ◌^◌, ◌≡◌, ℕ, Bool, true, false, List, None, refl, sym, ap, ◌∙◌, subst}
use Rattle.tz_table.specs.declared.units.Code.{Code}
use Rattle.tz_table.specs.declared.units.Side.{Side}
use Rattle.tz_model.specs.declared.report.Fault.TheVariants.{Call}
use Rattle.tz_model.specs.declared.report.ScriptEvent.{ScriptEvent}
use Rattle.tz_model.specs.declared.report.Slot.{Slot}
use Rattle.tz_model.specs.Words.{is_nonsecure_side, even_of}
use Rattle.tz_regs.specs.declared.parts.Core.{Core}
use Rattle.tz_state.specs.State.{State}
use Rattle.tz_state.specs.Memory.{Memory}
use Rattle.tz_regs.specs.Registers.{sp_of, uses_process}
use Rattle.tz_regs.specs.declared.parts.Registers.{Registers}
use Rattle.tz_regs.specs.declared.parts.Stacks.{Stacks}
use Rattle.tz_frames.specs.declared.entering.Entering.{Entering}
use Rattle.tz_frames.specs.declared.entering.Entered.{Entered}
use Rattle.tz_frames.specs.declared.entering.Entered.TheVariants as entered
use Rattle.tz_frames.specs.declared.leaving.Left.{Left}
use Rattle.tz_frames.specs.declared.leaving.Left.TheVariants as lefts
use Rattle.tz_frames.specs.Machine.{Framed, framed}
use Rattle.tz_frames.specs.Enter.{Done, enters}
use Rattle.tz_frames.specs.Leave.{Leaving, leaves}
use Rattle.tz_sem.specs.declared.ending.Cause.TheVariants.{Resumed, Taken}
use Rattle.tz_sem.specs.declared.ending.Course.{Course}
use Rattle.tz_sem.specs.Ended.{Passed, Ended}
use Rattle.tz_sem.specs.Taking.{state_of, framed_in, goes_on_at, taken_by, preempted, left_by, returns}
use Rattle.tz_sem.specs.Step.{started, ended, step}
use Rattle.tz_resume.specs.Words.{SameBytes}
use Rattle.tz_resume.specs.Resumption.{process_of, basic_pushed, IsSound, IsStacked, GoesOn}
use Rattle.tz_resume.specs.Entries.{left_at, IsPreempted, IsTakenBack}
use Rattle.tz_resume.specs.Number.{IsNumbered}
use Rattle.tz_resume.specs.Steps.{Preempts, IsTyped, Entry, AtCode, BehindCall, CallsBy, behind_call, IsPreemption, left_in, TakesBack, EntersBy, ReturnsBy}
use Rattle.tz_resume.proofs.Exactly.{entries_resume}
use Rattle.tz_resume.proofs.Staying.{typed_started, calls_stay}

-- ---- an entry of a state

-- what an entry that took an exception left
record Took (d : Done Framed) (p : Passed) : Type 0 where
  given : Slot
  entering : Entering
  result : d.result ≡ entered.Taken given entering
  core : p.state.core ≡ d.core
  memory : p.state.bus.memory ≡ d.held.bus.memory

took : (d : Done Framed) (course : Course) (x : Entered) → d.result ≡ x → (taken_by (state_of d.core d.exceptions d.held.bus) course x).ending.cause ≡ Taken
    → Took d (taken_by (state_of d.core d.exceptions d.held.bus) course x)
took d course (entered.Taken given x) is cause = record { given = given; entering = x; result = is; core = refl; memory = refl }
took d course (entered.Lockup x) is cause = cc

-- and what a return after which code goes on did
record Back (l : Leaving Framed) (p : Passed) : Type 0 where
  touched : Bool
  result : l.result ≡ lefts.Resumed touched
  core : p.state.core ≡ l.core

came_back : (l : Leaving Framed) (course : Course) (code : Code) (value : ℕ) (x : Left) → l.result ≡ x → (left_by (state_of l.core l.exceptions l.held.bus) course code value x).ending.cause ≡ Resumed
    → Back l (left_by (state_of l.core l.exceptions l.held.bus) course code value x)
came_back l course code value (lefts.Resumed touched) is cause = record { touched = touched; result = is; core = refl }
came_back l course code value (lefts.Chained given refused y) is cause = cc
came_back l course code value (lefts.Lockup refused y) is cause = cc

pub states_resume : (s : State) (course : Course) (back : ℕ) → Preempts s course back (preempted s course back)
    → (later : State) (course' : Course) (code : Code) (value : ℕ) → TakesBack (process_of s.core) (preempted s course back).state later value (returns later course' code value)
    → GoesOn s.core back (returns later course' code value).state.core
unfolding preempted returns
states_resume s course back k later course' code value t =
    let d = enters framed s.bus.board.profile s.core s.exceptions (framed_in course.negative s) back in
    let l = leaves framed later.bus.board.profile later.core later.exceptions (framed_in course'.negative later) value in
    let a = took d course d.result refl k.taken in
    let b = came_back l course' code value l.result refl t.resumed in
    let before : IsPreempted s.core (framed_in course.negative s) back d = record {
      stacked = k.stacked;
      given = a.given;
      entering = a.entering;
      taken = a.result;
      nonsecure = ap (λ (c : Core). is_nonsecure_side c.run.side) (sym a.core) ∙ k.nonsecure;
    } in
    let p = preempted s course back in
    let at : left_in (process_of s.core) p.state ≡ left_at s.core d = ap (λ (c : Core). sp_of (process_of s.core) c.stacks_s) a.core in
    let bytes : SameBytes (left_at s.core d) 72 d.held.bus.memory later.bus.memory =
    subst (λ (m : Memory). SameBytes (left_at s.core d) 72 m later.bus.memory) a.memory (subst (λ (top : ℕ). SameBytes top 72 p.state.bus.memory later.bus.memory) at t.bytes) in
    let after : IsTakenBack s.core d later.core later.exceptions (framed_in course'.negative later) value l = record {
      secure = t.secure;
      callee = t.callee;
      stack = t.stack;
      pointer = t.pointer ∙ at;
      bytes = bytes;
      touched = b.touched;
      resumed = b.result;
    } in
    subst (λ (c : Core). GoesOn s.core back c) (sym b.core)
    (entries_resume s.bus.board.profile s.core s.exceptions (framed_in course.negative s) back before later.bus.board.profile later.core later.exceptions (framed_in course'.negative later) value after)

-- ---- steps

-- what goes on hangs on registers and on the Secure stack alone
goes_on_from : (c from after : Core) (back : ℕ) → from.registers ≡ c.registers → from.stacks_s ≡ c.stacks_s → GoesOn from back after → GoesOn c back after
goes_on_from c from after back registers stacks k =
    let process : process_of from ≡ process_of c =
    ap (λ (r : Registers). uses_process r.ipsr from.stacks_s) registers ∙ ap (λ (own : Stacks). uses_process c.registers.ipsr own) stacks in
    record {
      side = k.side;
      registers = k.registers ∙ ap (λ (r : Registers). record r { pc = even_of back }) registers;
      process = k.process ∙ process;
      pointer = ap (λ (p : Bool). sp_of p after.stacks_s) (sym process) ∙ k.pointer ∙ ap (λ (p : Bool). sp_of p from.stacks_s) process
          ∙ ap (λ (own : Stacks). sp_of (process_of c) own) stacks;
    }

sound_of : (s : State) → IsTyped s → IsNumbered s.core → IsSound s.core.registers
sound_of s t n = record { thirteen = t.registers.thirteen; words = t.registers.words; lr = t.registers.lr; it = t.registers.it; ipsr = n }

-- after an entry at PC
code_resumes : (s : State) (events : List ScriptEvent) (from : State) (course : Course) → IsTyped s → IsNumbered s.core → EntersBy (started s events) (ended (started s events)) from course
    → IsPreemption s events from course s.core.registers.pc
    → (s' : State) (events' : List ScriptEvent) (later : State) (value : ℕ) (p : Passed) → ReturnsBy (ended (started s' events')) later value p
    → TakesBack (process_of s.core) (step s events).state later value p
    → GoesOn s.core s.core.registers.pc (step s' events').state.core
code_resumes s events from course typed numbered i k s' events' later value p r t =
    let back = s.core.registers.pc in
    let q = process_of from.core in
    let stacked : IsStacked from.core (framed_in course.negative from) back = record {
      secure = i.side ∙ k.secure;
      sound = subst (λ (r : Registers). IsSound r) (sym i.registers) (sound_of s typed numbered);
      fits = typed.registers.pc;
      pointer = subst (λ (own : Stacks). sp_of q own < 2 ^ 32) (sym i.stacks) (typed.pointer q);
      whole = i.whole (typed_started s events typed).whole;
      basic = k.basic;
      additional = k.additional;
    } in
    let e : (step s events).state ≡ (preempted from course back).state = i.state in
    let process : process_of s.core ≡ process_of from.core =
    ap (λ (r : Registers). uses_process r.ipsr s.core.stacks_s) (sym i.registers) ∙ ap (λ (own : Stacks). uses_process from.core.registers.ipsr own) (sym i.stacks) in
    let taken : TakesBack (process_of from.core) (preempted from course back).state later value (returns later r.course r.code value) =
    subst (λ (q : Bool). TakesBack q (preempted from course back).state later value (returns later r.course r.code value)) process
    (subst (λ (q : Passed). TakesBack (process_of s.core) (preempted from course back).state later value q) r.returned
    (subst (λ (after : State). TakesBack (process_of s.core) after later value p) e t)) in
    let preempts : Preempts from course back (preempted from course back) = record {
      stacked = stacked;
      taken = sym i.cause ∙ k.taken;
      nonsecure = ap (λ (x : State). is_nonsecure_side x.core.run.side) (sym i.state) ∙ k.nonsecure;
    } in
    let goes = states_resume from course back preempts later r.course r.code value taken in
    let ends : (step s' events').state.core ≡ (returns later r.course r.code value).state.core = ap (λ (x : Ended). x.state.core) r.ends ∙ ap (λ (q : Passed). q.state.core) r.returned in
    subst (λ (c : Core). GoesOn s.core back c) (sym ends) (goes_on_from s.core from.core (returns later r.course r.code value).state.core back i.registers i.stacks goes)

-- SVC doesn't end in a Non-secure exception
no_call : (s : State) (events : List ScriptEvent) (from : State) (course : Course) (back : ℕ) (at : State) → IsTyped s → CallsBy (started s events) (ended (started s events)) at course
    → from ≡ behind_call at → back ≡ goes_on_at Call at.core.registers.pc → IsPreemption s events from course back → ⊥
no_call s events from course back at typed i same to k =
    let basic : (basic_pushed (behind_call at).core (framed_in course.negative (behind_call at)) (goes_on_at Call at.core.registers.pc)).fault ≡ None =
    subst (λ (b : ℕ). (basic_pushed (behind_call at).core (framed_in course.negative (behind_call at)) b).fault ≡ None) to
    (subst (λ (x : State). (basic_pushed x.core (framed_in course.negative x) back).fault ≡ None) same k.basic) in
    let stays = calls_stay (started s events) (ended (started s events)) at course (typed_started s events typed) i k.secure basic in
    let wrong : false ≡ true = ap (λ (side : Side). is_nonsecure_side side) (sym stays) ∙ k.nonsecure in
    cc

pub steps_resume : (s : State) (events : List ScriptEvent) (from : State) (course : Course) (back : ℕ) → IsTyped s → IsNumbered s.core → IsPreemption s events from course back
    → (s' : State) (events' : List ScriptEvent) (later : State) (value : ℕ) (p : Passed) → ReturnsBy (ended (started s' events')) later value p
    → TakesBack (process_of s.core) (step s events).state later value p
    → GoesOn s.core s.core.registers.pc (step s' events').state.core
steps_resume s events from course back typed numbered k s' events' later value p r t = by k.entry where
  by : Entry (started s events) (ended (started s events)) from course back → GoesOn s.core s.core.registers.pc (step s' events').state.core
  by (AtCode i at) =
      code_resumes s events from course typed numbered i (subst (λ (b : ℕ). IsPreemption s events from course b) at k) s' events' later value p r t
  by (BehindCall at i same to) = absurd (no_call s events from course back at typed i same to k)
