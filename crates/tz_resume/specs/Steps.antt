-- Steps in which Secure code is preempted, and steps that let it go on.
use Rattle.std.specs.Prelude.{◌≡◌, ◌<◌, ◌^◌, None, ℕ, Bool, true, false, List, length, slice_index}
use Rattle.tz_table.specs.declared.units.Side.TheVariants.{Secure}
use Rattle.tz_table.specs.declared.units.Code.{Code}
use Rattle.tz_model.specs.declared.report.Fault.TheVariants.{Call}
use Rattle.tz_model.specs.declared.report.ScriptEvent.{ScriptEvent}
use Rattle.tz_model.specs.declared.report.Store.{Store}
use Rattle.tz_model.specs.Words.{is_nonsecure_side}
use Rattle.tz_regs.specs.declared.parts.Registers.{Registers}
use Rattle.tz_regs.specs.Registers.{sp_of}
use Rattle.tz_state.specs.Execution.{takes_first}
use Rattle.tz_state.specs.First.{FitGroups}
use Rattle.tz_state.specs.Slots.{places}
use Rattle.tz_state.specs.State.{State}
use Rattle.tz_frames.specs.Leave.{has_callee, returns_to_process, return_sp}
use Rattle.tz_frames.specs.Status.{Raised, faulted}
use Rattle.tz_sem.specs.declared.ending.Cause.TheVariants.{Resumed, Taken}
use Rattle.tz_sem.specs.declared.ending.Course.{Course}
use Rattle.tz_sem.specs.Ended.{Passed, Ended, with_stores}
use Rattle.tz_sem.specs.Taking.{state_of, framed_in, passed_by, goes_on_at, preempted, faults, returns}
use Rattle.tz_sem.specs.Step.{started, ended, step}
use Rattle.tz_resume.specs.Words.{SameBytes, IsWhole}
use Rattle.tz_resume.specs.Number.{IsNumbered}
use Rattle.tz_resume.specs.Resumption.{process_of, basic_pushed, both_pushed, IsStacked, GoesOn}
use Rattle.tz_resume.specs.Entries.{returning, leaver}

-- ---- what the machine's types say

-- R0 to R12, LR and PC are words, and the IT state has 8 bits
pub record FitWords (r : Registers) : Type 0 where
  pub thirteen : length r.general ≡ 13
  pub words : (i : ℕ) → slice_index r.general i < 2 ^ 32
  pub lr : r.lr < 2 ^ 32
  pub pc : r.pc < 2 ^ 32
  pub it : r.it < 2 ^ 8

-- beside that, Secure stack pointers are words, there is a byte at each address of the board's regions, each exception
-- has its slot, and PRIGROUP has three bits
pub record IsTyped (s : State) : Type 0 where
  pub registers : FitWords s.core.registers
  pub pointer : (process : Bool) → sp_of process s.core.stacks_s < 2 ^ 32
  pub whole : IsWhole s.bus
  pub slots : length s.exceptions.slots ≡ places
  pub groups : FitGroups s.exceptions

-- ---- entries

-- a step, after what it begins with, that is an entry from the code that ran: from its side, with its registers and its
-- Secure stacks, and the code is to go on at its PC
pub record EntersBy (s : State) (e : Ended) (from : State) (course : Course) : Type 0 where
  pub state : e.state ≡ (preempted from course s.core.registers.pc).state
  pub cause : e.ending.cause ≡ (preempted from course s.core.registers.pc).ending.cause
  pub side : from.core.run.side ≡ s.core.run.side
  pub registers : from.core.registers ≡ s.core.registers
  pub stacks : from.core.stacks_s ≡ s.core.stacks_s
  pub whole : IsWhole s.bus → IsWhole from.bus

-- a step that is SVC, which no exception came before: it changed nothing, and what it pends is entered
pub record CallsBy (s : State) (e : Ended) (at : State) (course : Course) : Type 0 where
  pub state : e.state ≡ (faults at course Call).state
  pub cause : e.ending.cause ≡ (faults at course Call).ending.cause
  pub side : at.core.run.side ≡ s.core.run.side
  pub masks : at.core.masks ≡ s.core.masks
  pub exceptions : at.exceptions ≡ s.exceptions
  pub first : takes_first s.exceptions s.core.masks ≡ false

abbrev pub raised_by_call : State → Raised
raised_by_call s = faulted s.core.run.side Call s.core s.exceptions

-- what the entry of SVC begins with, the IT state moved on
abbrev pub behind_call : State → State
behind_call s = state_of (passed_by Call (raised_by_call s).core) (raised_by_call s).exceptions s.bus

-- an entry from a state, of code that is to go on at an address: behind itself for SVC alone
pub data Entry (s : State) (e : Ended) (from : State) (course : Course) (back : ℕ) : Type 0 where
  AtCode : EntersBy s e from course → back ≡ s.core.registers.pc → Entry s e from course back
  BehindCall : (at : State) → CallsBy s e at course → from ≡ behind_call at → back ≡ goes_on_at Call at.core.registers.pc → Entry s e from course back

-- a step that is an entry from Secure code, whose frames can be written where the entry finds the stack, and that took a
-- Non-secure exception
pub record IsPreemption (s : State) (events : List ScriptEvent) (from : State) (course : Course) (back : ℕ) : Type 0 where
  pub entry : Entry (started s events) (ended (started s events)) from course back
  pub secure : s.core.run.side ≡ Secure
  pub basic : (basic_pushed from.core (framed_in course.negative from) back).fault ≡ None
  pub additional : (both_pushed from.core (framed_in course.negative from) back).fault ≡ None
  pub taken : (ended (started s events)).ending.cause ≡ Taken
  pub nonsecure : is_nonsecure_side (step s events).state.core.run.side ≡ true

-- ---- returns

-- a step that returns by a value, with what it was before it took frames
pub record ReturnsBy (e : Ended) (later : State) (value : ℕ) (p : Passed) : Type 0 where
  pub course : Course
  pub code : Code
  pub stores : List Store
  pub returned : p ≡ returns later course code value
  pub ends : e ≡ with_stores stores p

-- where a step left the Secure stack, PSP's or MSP's
abbrev pub left_in : Bool → State → ℕ
left_in process after = sp_of process after.core.stacks_s

-- a return by a value takes both frames from where a step left that stack, their 72 bytes being as that step left them,
-- and the code goes on
pub record TakesBack (process : Bool) (after later : State) (value : ℕ) (p : Passed) : Type 0 where
  pub secure : (returning later.core value).secure ≡ true
  pub callee : has_callee (returning later.core value) ≡ true
  pub stack : returns_to_process (leaver later.core later.exceptions value) (returning later.core value) ≡ process
  pub pointer : return_sp (leaver later.core later.exceptions value) (returning later.core value) ≡ left_in process after
  pub bytes : SameBytes (left_in process after) 72 after.bus.memory later.bus.memory
  pub resumed : p.ending.cause ≡ Resumed

-- ---- the laws

-- an entry that preempts Secure code, and a return
pub record Preempts (s : State) (course : Course) (back : ℕ) (p : Passed) : Type 0 where
  pub stacked : IsStacked s.core (framed_in course.negative s) back
  pub taken : p.ending.cause ≡ Taken
  pub nonsecure : is_nonsecure_side p.state.core.run.side ≡ true

abbrev pub StatesResume : Type 0
StatesResume =
    (s : State) (course : Course) (back : ℕ) → Preempts s course back (preempted s course back)
    → (later : State) (course' : Course) (code : Code) (value : ℕ) → TakesBack (process_of s.core) (preempted s course back).state later value (returns later course' code value)
    → GoesOn s.core back (returns later course' code value).state.core

-- two steps
abbrev pub StepsResume : Type 0
StepsResume =
    (s : State) (events : List ScriptEvent) (from : State) (course : Course) (back : ℕ) → IsTyped s → IsNumbered s.core → IsPreemption s events from course back
    → (s' : State) (events' : List ScriptEvent) (later : State) (value : ℕ) (p : Passed) → ReturnsBy (ended (started s' events')) later value p
    → TakesBack (process_of s.core) (step s events).state later value p
    → GoesOn s.core s.core.registers.pc (step s' events').state.core

-- SVC whose basic frame is written without a fault leaves the core in Secure state
abbrev pub CallsStay : Type 0
CallsStay =
    (s : State) (e : Ended) (at : State) (course : Course) → IsTyped s → CallsBy s e at course → s.core.run.side ≡ Secure
    → (basic_pushed (behind_call at).core (framed_in course.negative (behind_call at)) (goes_on_at Call at.core.registers.pc)).fault ≡ None
    → e.state.core.run.side ≡ Secure

-- ---- which steps these are

-- how a step came to take an exception, or to let code go on: by an entry, or by a return
pub data HowEnded (s : State) (e : Ended) : Type 0 where
  ByEntry : (from : State) (course : Course) (back : ℕ) → Entry s e from course back → HowEnded s e
  ByReturn : (later : State) (value : ℕ) (p : Passed) → ReturnsBy e later value p → HowEnded s e

abbrev pub TakenSo : Type 0
TakenSo = (s : State) → (ended s).ending.cause ≡ Taken → HowEnded s (ended s)

-- a return, whatever it was
pub record IsReturn (e : Ended) : Type 0 where
  pub later : State
  pub value : ℕ
  pub passed : Passed
  pub by : ReturnsBy e later value passed

abbrev pub ReturnedSo : Type 0
ReturnedSo = (s : State) → (ended s).ending.cause ≡ Resumed → IsReturn (ended s)
