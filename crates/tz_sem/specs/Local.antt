-- What most instructions work on: the registers and the stacks of the code that runs them.
use Rattle.std.specs.Prelude.{ℕ, Result, Ok, Err}
use Rattle.tz_table.specs.declared.units.Side.{Side}
use Rattle.tz_model.specs.declared.report.Fault.{Fault}
use Rattle.tz_model.specs.declared.report.Outcome.{Outcome}
use Rattle.tz_model.specs.declared.report.Outcome.TheVariants.{Next}
use Rattle.tz_regs.specs.declared.parts.Core.{Core}
use Rattle.tz_regs.specs.declared.parts.Registers.{Registers}
use Rattle.tz_regs.specs.declared.parts.Stacks.{Stacks}
use Rattle.tz_regs.specs.Banks.{stacks_of, status_of, secure_after, nonsecure_after}
use Rattle.tz_regs.specs.Registers.{reg_of, with_reg, with_reg_stacks}
use Rattle.tz_regs.specs.Special.{Named, with_named}

-- of Non-secure code nothing Secure is in it; whose code it is and CCR are only read
pub record Local : Type 0 where
  pub side : Side
  pub ccr : ℕ
  pub registers : Registers
  pub own : Stacks

abbrev pub local_of : Core → Local
local_of c =
    record { side = c.run.side; ccr = (status_of c.run.side c).ccr; registers = c.registers; own = stacks_of c.run.side c }

-- the core with what its code leaves
abbrev pub with_local : Core → Local → Core
with_local c l =
    record c {
      registers = l.registers;
      stacks_s = secure_after c.run.side l.own c.stacks_s;
      stacks_ns = nonsecure_after c.run.side l.own c.stacks_ns;
    }

-- R0 to R12, SP and LR; PC reads as the instruction's address plus 4
abbrev pub reg : Local → ℕ → ℕ
reg l k = reg_of l.registers l.own k

abbrev pub with_registers : Local → Registers → Local
with_registers l r = record l { registers = r }

-- R0 to R12, SP or LR after a write
abbrev pub put : Local → ℕ → ℕ → Local
put l k value =
    record l { registers = with_reg l.registers k value; own = with_reg_stacks l.registers.ipsr l.own k value }

-- what an instruction leaves, and how it goes on, or its fault
abbrev pub Finished : Type 0
Finished = Result (Local × Outcome) Fault

-- an instruction that gives a register a value and goes on
abbrev pub gives : Local → ℕ → ℕ → Finished
gives l k value = Ok (put l k value, Next)

-- what is left of the part that an instruction works on, with how it goes on or its fault: a fault leaves it
-- as it was
abbrev pub finished_part : Local → Finished → Local × Result Outcome Fault
finished_part l (Ok f) = (f.0, Ok f.1)
finished_part l (Err fault) = (l, Err fault)

-- the core after it
abbrev pub finished_in : Core → Finished → Core × Result Outcome Fault
finished_in c (Ok f) = (with_local c f.0, Ok f.1)
finished_in c (Err fault) = (c, Err fault)

-- the same of instructions that work on special registers
abbrev pub FinishedNamed : Type 0
FinishedNamed = Result (Named × Outcome) Fault

abbrev pub finished_named : Core → FinishedNamed → Core × Result Outcome Fault
finished_named c (Ok f) = (with_named c f.0, Ok f.1)
finished_named c (Err fault) = (c, Err fault)
