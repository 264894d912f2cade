-- Calls and returns between the sides (DDI0553, `SG`, `BXNS`, `BLXNS`, `FunctionReturn`).
use Rattle.std.specs.Prelude.{ℕ, ◌+◌, ◌-◌, ◌%◌, ◌^◌, ◌==◌, nat_lt, Bool, true, ◌&&◌, ◌||◌, not, if◌then◌else◌, List, [], ◌∷◌, Result, Ok, Err}
use Rattle.tz_table.specs.declared.units.Side.{Side}
use Rattle.tz_table.specs.declared.units.Side.TheVariants.{Secure, NonSecure}
use Rattle.tz_table.specs.declared.units.Size.TheVariants.{Word}
use Rattle.tz_model.specs.declared.report.Fault.{Fault}
use Rattle.tz_model.specs.declared.report.Fault.TheVariants.{StackLimit, InvPc}
use Rattle.tz_model.specs.Ports.{Access, Store, Answering, answers, always_aligned, as_running}
use Rattle.tz_model.specs.Words.{wrap, even_of}
use Rattle.tz_regs.specs.declared.parts.Core.{Core}
use Rattle.tz_regs.specs.Registers.{is_handler, pointer_of, pointer_limit_of, with_pointer}
use Rattle.tz_frames.specs.FrameAccess.{FrameAnswering, SecureLoad}

-- ---- SG and BXNS

-- SG reached from Non-secure state: bit 0 of LR and the IT state are cleared, and Secure code runs on
abbrev pub gateway_entered : Core → Core
gateway_entered c =
    record c {
      run = record c.run { side = Secure };
      registers = record c.registers { lr = even_of c.registers.lr; pc = wrap (c.registers.pc + 4); it = 0 };
    }

-- Non-secure code runs on where bit 0 of a target is 0
abbrev pub side_after : Side → ℕ → Side
side_after side target = if target % 2 == 0 then NonSecure else side

-- BXNS
abbrev pub branched_ns : Core → ℕ → Core
branched_ns c target =
    record c {
      run = record c.run { side = side_after c.run.side target };
      registers = record c.registers { pc = even_of target; t = true };
    }

-- ---- BLXNS

-- the value by which Non-secure code returns
abbrev pub fnc_return : ℕ
fnc_return = 0xFEFFFFFF

-- with bit 0 set or clear
abbrev pub is_fnc_return : ℕ → Bool
is_fnc_return target = target == even_of fnc_return || target == fnc_return

-- the bytes of what a call leaves on the Secure stack
abbrev pub call_frame_size : ℕ
call_frame_size = 8

-- such a frame below the Secure stack pointer
abbrev pub call_base : Core → ℕ
call_base c = wrap (pointer_of c.registers.ipsr c.stacks_s + (2 ^ 32 - call_frame_size))

-- where Secure code goes on, with bit 0 set, and the number of the exception that it handles
abbrev pub call_stores : Core → ℕ → List Access
call_stores c next =
    Store Word (call_base c) (even_of next + 1) always_aligned as_running ∷ Store Word (wrap (call_base c + 4)) c.registers.ipsr always_aligned as_running ∷ []

-- the number is hidden from the code that is called: 1 in Handler mode
abbrev pub number_shown : ℕ → ℕ
number_shown ipsr = if is_handler ipsr then 1 else 0

abbrev pub called_ns : Core → ℕ → Core
called_ns c target =
    record c {
      run = record c.run { side = NonSecure };
      registers = record c.registers { lr = fnc_return; pc = even_of target; t = true; ipsr = number_shown c.registers.ipsr };
      stacks_s = with_pointer c.registers.ipsr c.stacks_s (call_base c);
    }

-- what a call leaves of the core and of what a port holds, and its fault
pub record Called (H : Type 0) : Type 0 where
  pub core : Core
  pub held : H
  pub outcome : Result Unit Fault

abbrev pub after_call : {H : Type 0} → Core → ℕ → H × Result (List ℕ) Fault → Called H
after_call c target (h, Ok words) = record { core = called_ns c target; held = h; outcome = Ok tt }
after_call c target (h, Err fault) = record { core = c; held = h; outcome = Err fault }

-- the stack pointer isn't moved below its limit
abbrev pub calls_ns : {H : Type 0} → Answering H → Core → H → ℕ → ℕ → Called H
calls_ns one c h target next =
    if nat_lt (call_base c) (pointer_limit_of c.registers.ipsr c.stacks_s) then record { core = c; held = h; outcome = Err (StackLimit Secure) }
    else after_call c target (answers one h (call_stores c next))

-- ---- FNC_RETURN

-- the two words at the Secure stack pointer of the mode
abbrev pub return_base : Core → ℕ
return_base c = pointer_of c.registers.ipsr c.stacks_s

-- both in Thread mode, or 1 in IPSR for the number that was hidden
abbrev pub numbers_agree : ℕ → ℕ → Bool
numbers_agree ipsr number = if ipsr == 0 then number == 0 else ipsr == 1 && not (number == 0)

abbrev pub came_back : Core → ℕ → ℕ → Core
came_back c back number =
    record c {
      run = record c.run { side = Secure };
      registers = record c.registers { pc = even_of back; t = back % 2 == 1; ipsr = number; it = 0 };
      stacks_s = with_pointer c.registers.ipsr c.stacks_s (wrap (return_base c + call_frame_size));
    }

-- the number is in bits 8:0 of the second word
abbrev pub returned_with : Core → ℕ → ℕ → Result Core Fault
returned_with c back number =
    if numbers_agree c.registers.ipsr number then Ok (came_back c back number) else Err (InvPc c.run.side)

abbrev pub after_second : Core → ℕ → Result ℕ Fault → Result Core Fault
after_second c back (Ok word) = returned_with c back (word % 2 ^ 9)
after_second c back (Err fault) = Err fault

abbrev pub after_first : Core → Result ℕ Fault → Result ℕ Fault → Result Core Fault
after_first c (Ok back) second = after_second c back second
after_first c (Err fault) second = Err fault

-- the core that returned, or the fault
abbrev pub function_returned : {H : Type 0} → FrameAnswering H → Core → H → Result Core Fault
function_returned answering c h =
    after_first c (answering h (SecureLoad (return_base c))).1 (answering h (SecureLoad (wrap (return_base c + 4)))).1
