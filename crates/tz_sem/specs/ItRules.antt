-- What may stand in an IT block, and what runs there whatever the condition.
use Rattle.std.specs.Prelude.{ℕ, ◌/◌, ◌==◌, Bool, true, false, not, ◌&&◌, ◌||◌, nat_le}
use Rattle.tz_table.specs.declared.units.Side.{Side}
use Rattle.tz_table.specs.declared.units.Side.TheVariants.{Secure, NonSecure}
use Rattle.tz_table.specs.declared.units.Shift.{Shift}
use Rattle.tz_table.specs.declared.units.Shift.TheVariants.{Lsl}
use Rattle.tz_table.specs.declared.instruction.DataOp.{DataOp}
use Rattle.tz_table.specs.declared.instruction.DataOp.TheVariants.{Mov}
use Rattle.tz_table.specs.declared.instruction.Flags.{Flags}
use Rattle.tz_table.specs.declared.instruction.Flags.TheVariants.{OutsideIt}
use Rattle.tz_table.specs.declared.instruction.Insn.{Insn}
use Rattle.tz_table.specs.declared.instruction.Insn.TheVariants.{DataReg, Load, LoadMany, Branch, BranchIf, BranchLink, BranchZero, TableBranch, BranchExchange, CallExchange, IfThen, ChangeState, TestTarget, LazyState, Breakpoint, Undefined}
use Rattle.tz_regs.specs.declared.parts.Registers.{Registers}
use Rattle.tz_regs.specs.ItState.{in_it_block, is_last_in_it_block, condition_holds}

-- MOVS of 16 bits, register to register
abbrev pub is_plain_move : DataOp → Flags → Shift → ℕ → Bool
is_plain_move Mov OutsideIt Lsl amount = amount == 0
is_plain_move op flags kind amount = false

-- never in an IT block
abbrev pub is_barred : Insn → Bool
is_barred (IfThen cond mask) = true
is_barred (BranchZero nonzero rn offset) = true
is_barred (BranchIf cond offset) = true
is_barred (ChangeState disable i f) = true
is_barred (DataReg op flags rd rn rm kind amount) = is_plain_move op flags kind amount
is_barred insn = false

-- a branch or another write of PC, which may only be the last of a block
abbrev pub writes_pc : Insn → Bool
writes_pc (Branch offset) = true
writes_pc (BranchLink offset) = true
writes_pc (TableBranch half rn rm) = true
writes_pc (BranchExchange rm ns) = true
writes_pc (CallExchange rm ns) = true
writes_pc (DataReg op flags rd rn rm kind amount) = rd == 15
writes_pc (Load size signed rt address user) = rt == 15
writes_pc (LoadMany rn list down back) = nat_le 32768 list
writes_pc insn = false

-- (own) an instruction where it may not stand is undefined, whatever the condition
abbrev pub is_misplaced : Insn → Registers → Bool
is_misplaced i r = in_it_block r.it && (is_barred i || writes_pc i && not (is_last_in_it_block r.it))

-- undefined in Non-secure state
abbrev pub is_secure_only : Insn → Bool
is_secure_only (BranchExchange rm ns) = ns
is_secure_only (CallExchange rm ns) = ns
is_secure_only (TestTarget a t rd rn) = a
is_secure_only (LazyState load rn) = true
is_secure_only insn = false

-- (own) whether an instruction of a side runs whatever the condition
abbrev pub ignores_condition : Side → Insn → Bool
ignores_condition side (Breakpoint imm) = true
ignores_condition side (Undefined imm) = true
ignores_condition Secure insn = false
ignores_condition NonSecure insn = is_secure_only insn

-- the condition of an IT block fails
abbrev pub is_passed_over : Registers → Bool
is_passed_over r = in_it_block r.it && not (condition_holds (r.it / 16) r.apsr)
