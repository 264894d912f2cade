-- Integrity of Secure state: what a step of Non-secure code can't change, and how it gets to Secure code.
use Rattle.std.specs.Prelude.{◌≡◌, ◌≢◌, ◌⊎◌, ℕ, ◌+◌, ◌*◌, ◌/◌, ◌%◌, ◌^◌, ◌==◌, Bool, true, false, not, List, [], ◌∷◌, Some}
use Rattle.std.specs.FinMap.{get}
use Rattle.tz_table.specs.declared.units.Side.TheVariants.{Secure, NonSecure}
use Rattle.tz_table.specs.declared.units.Code.{Code}
use Rattle.tz_model.specs.declared.report.ScriptEvent.{ScriptEvent}
use Rattle.tz_model.specs.declared.report.Slot.{Slot}
use Rattle.tz_model.specs.declared.report.StepKind.TheVariants.{Ran}
use Rattle.tz_model.specs.Words.{wrap, even_of, is_nonsecure_side}
use Rattle.tz_regs.specs.declared.parts.Core.{Core}
use Rattle.tz_regs.specs.declared.parts.Registers.{Registers}
use Rattle.tz_regs.specs.declared.parts.Stacks.{Stacks}
use Rattle.tz_regs.specs.Registers.{pointer_of, with_pointer}
use Rattle.tz_regs.specs.Special.{apsr_from}
use Rattle.tz_state.specs.Memory.{Memory, half_at, word_at}
use Rattle.tz_state.specs.Attribution.{MapState, attribution, is_open}
use Rattle.tz_state.specs.Slots.{ExceptionsValue, at, index_of, side_at}
use Rattle.tz_state.specs.Timers.{counted_down}
use Rattle.tz_state.specs.State.{State, map_of, side_of, is_privileged_in, priority_in, is_negative_at}
use Rattle.tz_state.specs.Fetch.{is_runnable, is_half_mapped}
use Rattle.tz_frames.specs.Stack.{signature}
use Rattle.tz_sem.specs.declared.ending.Cause.{Cause}
use Rattle.tz_sem.specs.declared.ending.Cause.TheVariants.{CameBack, Resumed, Taken}
use Rattle.tz_sem.specs.Step.{Stepped, ended, started}

-- each byte that isn't Non-secure is as it was
abbrev pub KeepsBytes : MapState → Memory → Memory → Type 0
KeepsBytes m old new = (a : ℕ) → is_open m a ≡ false → get new a ≡ get old a

-- the slot at a place is of the Secure side
abbrev pub is_secure_at : ExceptionsValue → ℕ → Bool
is_secure_at e i = not (is_nonsecure_side (side_at e i))

-- PRIGROUP of the Secure side, PRIS and BFHFNMINS, the sides of external interrupts, and which Secure exceptions
-- are enabled and with which priority, are as they were
pub record KeepsExceptions (old new : ExceptionsValue) : Type 0 where
  pub interrupts : new.interrupts ≡ old.interrupts
  pub prigroup : new.prigroup_s ≡ old.prigroup_s
  pub pris : new.pris ≡ old.pris
  pub bfhfnmins : new.bfhfnmins ≡ old.bfhfnmins
  pub targets : (i : ℕ) → (at new i).target ≡ (at old i).target
  pub enabled : (i : ℕ) → is_secure_at old i ≡ true → (at new i).enabled ≡ (at old i).enabled
  pub priorities : (i : ℕ) → is_secure_at old i ≡ true → (at new i).priority ≡ (at old i).priority

-- the Secure side is as it was: bytes, stack pointers with limits and CONTROL, masks, VTOR, CCR and the fault
-- registers of a side, what is above, the SAU and the Secure MPU
pub record Keeps (old new : State) : Type 0 where
  pub bytes : KeepsBytes (map_of old) old.bus.memory new.bus.memory
  pub stacks : new.core.stacks_s ≡ old.core.stacks_s
  pub masks : new.core.masks.s ≡ old.core.masks.s
  pub status : new.core.status.s ≡ old.core.status.s
  pub exceptions : KeepsExceptions old.exceptions new.exceptions
  pub sau : new.bus.sau ≡ old.bus.sau
  pub mpu : new.bus.mpu_s ≡ old.bus.mpu_s
  pub board : new.bus.board ≡ old.bus.board

-- the Secure timer changed by its count alone
abbrev pub CountsAlone : State → State → Type 0
CountsAlone old new = new.exceptions.timer_s ≡ counted_down old.exceptions.timer_s

-- Non-secure code that didn't look at Secure state left it as it was
abbrev pub LeavesSecure : State → Stepped → Type 0
LeavesSecure s r =
    is_nonsecure_side (side_of s) ≡ true → r.report.touched ≡ false → Keeps s r.state × CountsAlone s r.state

-- ---- by SG

-- an address that Non-secure code fetches from is Secure, and it may call there
abbrev pub IsCallable : MapState → ℕ → Type 0
IsCallable m a = ((attribution m true NonSecure a).side ≡ Secure) × ((attribution m true NonSecure a).callable ≡ true)

-- a halfword of SG: Non-secure code may call it, the Secure MPU lets it run with the privilege of Secure code, it lies
-- in regions of the board, and it is E97F
pub record IsGatewayHalf (s : State) (a : ℕ) : Type 0 where
  pub callable : IsCallable (map_of s) a
  pub runs : is_runnable s.bus Secure (is_privileged_in Secure s.core) (is_negative_at (priority_in s)) a ≡ true
  pub mapped : is_half_mapped s.bus a ≡ true
  pub half : half_at s.bus.memory a ≡ 0xE97F

abbrev pub sg_code : Code
sg_code = record { first = 0xE97F; second = Some 0xE97F }

-- PC is behind it, bit 0 of LR and the IT state are clear, and the other registers are as they were
abbrev pub after_sg : Registers → Registers
after_sg r = record r { pc = wrap (r.pc + 4); lr = even_of r.lr; it = 0 }

-- SG stood at PC where Non-secure code may call, it ran, and it left the registers so
pub record RanGateway (s : State) (r : Stepped) : Type 0 where
  pub first : IsGatewayHalf s s.core.registers.pc
  pub second : IsGatewayHalf s (wrap (s.core.registers.pc + 2))
  pub told : r.report.kind ≡ Ran s.core.registers.pc sg_code
  pub registers : r.state.core.registers ≡ after_sg s.core.registers

-- ---- by an exception

-- code handles this exception: IPSR is its number, it is of the side that runs, and it is active
pub record Handles (given : Slot) (c : Core) (e : ExceptionsValue) : Type 0 where
  pub number : c.registers.ipsr ≡ given.number
  pub runs : c.run.side ≡ given.side
  pub side : side_at e (index_of given) ≡ given.side
  pub active : (at e (index_of given)).active ≡ true

-- ---- by FNC_RETURN

-- both numbers are that of Thread mode; or IPSR is 1, in the place of the number of the handler that called
abbrev pub NumbersAgree : ℕ → ℕ → Type 0
NumbersAgree ipsr number = ((ipsr ≡ 0) × (number ≡ 0)) ⊎ ((ipsr ≡ 1) × (number ≢ 0))

-- what a call left on the Secure stack of the mode, MSP's or PSP's: where Secure code goes on, and with which number,
-- which agrees with IPSR before. The stack pointer is above it
pub record IsCallFrame (ipsr : ℕ) (stacks : Stacks) (after : Core) (memory : Memory) : Type 0 where
  pub pc : after.registers.pc ≡ even_of (word_at memory (pointer_of ipsr stacks))
  pub t : after.registers.t ≡ (word_at memory (pointer_of ipsr stacks) % 2 == 1)
  pub it : after.registers.it ≡ 0
  pub number : after.registers.ipsr ≡ word_at memory (wrap (pointer_of ipsr stacks + 4)) % 2 ^ 9
  pub agree : NumbersAgree ipsr (word_at memory (wrap (pointer_of ipsr stacks + 4)) % 2 ^ 9)
  pub pointer : after.stacks_s ≡ with_pointer ipsr stacks (wrap (pointer_of ipsr stacks + 8))

-- ---- by EXC_RETURN

-- the word so many bytes above an address
abbrev pub word_above : Memory → ℕ → ℕ → ℕ
word_above memory sp k = word_at memory (wrap (sp + k))

-- the flags, T, the IT state and IPSR are those of a RETPSR
pub record IsOfPsr (psr : ℕ) (r : Registers) : Type 0 where
  pub flags : r.apsr ≡ apsr_from psr
  pub t : r.t ≡ (psr / 2 ^ 24 % 2 == 1)
  pub it : r.it ≡ psr / 2 ^ 25 % 4 + 4 * (psr / 2 ^ 10 % 64)
  pub number : r.ipsr ≡ psr % 2 ^ 9

-- at an address stand the integrity signature, R4 to R11 from 8 bytes above it on, and the basic frame from 40 bytes
-- above it on, and the registers are what stands there
pub record IsUnstacked (memory : Memory) (sp : ℕ) (r : Registers) : Type 0 where
  pub signed : word_at memory sp ≡ signature
  pub general : r.general ≡
      word_above memory sp 0x28 ∷ word_above memory sp 0x2C ∷ word_above memory sp 0x30 ∷ word_above memory sp 0x34 ∷ word_above memory sp 0x08
      ∷ word_above memory sp 0x0C ∷ word_above memory sp 0x10 ∷ word_above memory sp 0x14 ∷ word_above memory sp 0x18 ∷ word_above memory sp 0x1C
      ∷ word_above memory sp 0x20 ∷ word_above memory sp 0x24 ∷ word_above memory sp 0x38 ∷ []
  pub lr : r.lr ≡ word_above memory sp 0x3C
  pub pc : r.pc ≡ even_of (word_above memory sp 0x40)
  pub psr : IsOfPsr (word_above memory sp 0x44) r

-- above both frames, and 4 bytes more where bit 9 of RETPSR says so
abbrev pub above_frames : Memory → ℕ → ℕ
above_frames memory sp = wrap (sp + 72 + 4 * (word_above memory sp 0x44 / 2 ^ 9 % 2))

-- the frames lay at the Secure stack pointer of the mode that goes on, which the number in IPSR tells, and it is above
-- them
pub record TookFrames (stacks : Stacks) (after : Core) (memory : Memory) : Type 0 where
  pub frames : IsUnstacked memory (pointer_of after.registers.ipsr stacks) after.registers
  pub pointer : pointer_of after.registers.ipsr after.stacks_s ≡ above_frames memory (pointer_of after.registers.ipsr stacks)

-- ---- all ways

-- from code with this number in IPSR and with these Secure stacks: by an exception, which Secure code handles; by
-- FNC_RETURN; or by EXC_RETURN
pub data Came (ipsr : ℕ) (stacks : Stacks) (after : State) (cause : Cause) : Type 0 where
  ByException : cause ≡ Taken → (given : Slot) → given.side ≡ Secure → Handles given after.core after.exceptions → Came ipsr stacks after cause
  ByReturn : cause ≡ CameBack → IsCallFrame ipsr stacks after.core after.bus.memory → Came ipsr stacks after cause
  ByUnstacking : cause ≡ Resumed → TookFrames stacks after.core after.bus.memory → Came ipsr stacks after cause

-- or by SG
abbrev pub WayIn : State → Stepped → Cause → Type 0
WayIn s r cause = RanGateway s r ⊎ Came s.core.registers.ipsr s.core.stacks_s r.state cause

-- Non-secure code that got to Secure code, and didn't lock, came there by one of the four; what the step begins with
-- decides whether the Secure MPU counts
abbrev pub EntersSecure : State → List ScriptEvent → Stepped → Type 0
EntersSecure s events r =
    is_nonsecure_side (side_of s) ≡ true → is_nonsecure_side (side_of r.state) ≡ false → r.state.core.run.locked ≡ false → WayIn (started s events) r (ended (started s events)).ending.cause
