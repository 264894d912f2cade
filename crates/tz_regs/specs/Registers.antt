-- The core's registers: which of them are in use, and reads and writes by number (DDI0553, `R[]`, `SP`).
use Rattle.std.specs.Prelude.{ℕ, ◌+◌, ◌*◌, ◌/◌, ◌^◌, ◌==◌, Bool, not, ◌&&◌, ◌||◌, nat_le, nat_lt, if◌then◌else◌, slice_index, slice_set}
use Rattle.tz_table.specs.declared.units.Side.{Side}
use Rattle.tz_table.specs.declared.units.Side.TheVariants.{Secure}
use Rattle.tz_model.specs.Words.{wrap}
use Rattle.tz_regs.specs.declared.parts.Apsr.{Apsr}
use Rattle.tz_regs.specs.declared.parts.Core.{Core}
use Rattle.tz_regs.specs.declared.parts.Registers.{Registers}
use Rattle.tz_regs.specs.declared.parts.Stacks.{Stacks}
use Rattle.tz_regs.specs.declared.parts.Before.{Before}
use Rattle.tz_regs.specs.Banks.{stacks_of}

-- (own) a locked core counts as Secure
abbrev pub side_in : Core → Side
side_in c = if c.run.locked then Secure else c.run.side

-- an exception is handled
abbrev pub is_handler : ℕ → Bool
is_handler ipsr = not (ipsr == 0)

-- code of a side is privileged, with this number of an exception
abbrev pub is_privileged : ℕ → Stacks → Bool
is_privileged ipsr s = is_handler ipsr || not s.npriv

-- PSP is in use
abbrev pub uses_process : ℕ → Stacks → Bool
uses_process ipsr s = not (is_handler ipsr) && s.spsel

-- the stack pointer in use, and its limit
abbrev pub pointer_of : ℕ → Stacks → ℕ
pointer_of ipsr s = if uses_process ipsr s then s.psp else s.msp

abbrev pub pointer_limit_of : ℕ → Stacks → ℕ
pointer_limit_of ipsr s = if uses_process ipsr s then s.psplim else s.msplim

-- PSP or MSP
abbrev pub sp_of : Bool → Stacks → ℕ
sp_of process s = if process then s.psp else s.msp

-- bits 1:0 of a stack pointer are zero
abbrev pub word_aligned : ℕ → ℕ
word_aligned n = n / 4 * 4

-- the stack pointer in use gets a value
abbrev pub with_pointer : ℕ → Stacks → ℕ → Stacks
with_pointer ipsr s value =
    record s {
      msp = if uses_process ipsr s then s.msp else word_aligned value;
      psp = if uses_process ipsr s then word_aligned value else s.psp;
    }

-- R0 to R12, SP and LR; PC reads as the instruction's address plus 4
abbrev pub reg_of : Registers → Stacks → ℕ → ℕ
reg_of r own k =
    if nat_lt k 13 then slice_index r.general k
    else if k == 13 then pointer_of r.ipsr own
    else if k == 14 then r.lr
    else wrap (r.pc + 4)

-- R0 to R12 and LR get a value
abbrev pub with_reg : Registers → ℕ → ℕ → Registers
with_reg r k value =
    if nat_lt k 13 then record r { general = slice_set r.general k value }
    else if k == 14 then record r { lr = value }
    else r

-- SP does
abbrev pub with_reg_stacks : ℕ → Stacks → ℕ → ℕ → Stacks
with_reg_stacks ipsr own k value = if k == 13 then with_pointer ipsr own value else own

-- a word is negative
abbrev pub is_negative : ℕ → Bool
is_negative n = nat_le (2 ^ 31) n

-- N and Z tell a value
abbrev pub with_n_and_z : ℕ → Apsr → Apsr
with_n_and_z value a = record a { n = is_negative value; z = value == 0 }

-- the stack pointer in use
abbrev pub sp_in : Core → ℕ
sp_in c = pointer_of c.registers.ipsr (stacks_of c.run.side c)

-- what the report of a step needs of the core before it
abbrev pub before_in : Core → Before
before_in c = record { side = side_in c; registers = c.registers; sp = sp_in c }
