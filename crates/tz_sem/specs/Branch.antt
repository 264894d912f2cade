-- Branches: where code goes on, and what a call leaves in LR.
use Rattle.std.specs.Prelude.{ℕ, ◌+◌, ◌*◌, ◌%◌, ◌==◌, Bool, true, false, not, List, [], ◌∷◌, if◌then◌else◌, slice_index, Ok, Err, ℤ}
use Rattle.tz_table.specs.declared.units.Side.{Side}
use Rattle.tz_table.specs.declared.units.Side.TheVariants.{Secure, NonSecure}
use Rattle.tz_table.specs.declared.units.Size.TheVariants.{Byte, Half}
use Rattle.tz_table.specs.declared.instruction.Insn.{Insn}
use Rattle.tz_table.specs.declared.instruction.Insn.TheVariants.{Branch, BranchIf, BranchLink, BranchZero, TableBranch, BranchExchange, CallExchange, IfThen}
use Rattle.tz_model.specs.declared.report.Fault.TheVariants.{Undef}
use Rattle.tz_model.specs.declared.report.Outcome.TheVariants.{Next, Jump, Exchange, Call}
use Rattle.tz_model.specs.Ports.{Access, Load, aligned_by_ccr, as_running}
use Rattle.tz_model.specs.Words.{wrap, word_of, even_of}
use Rattle.tz_regs.specs.ItState.{condition_holds, it_of}
use Rattle.tz_sem.specs.Local.{Local, Finished, reg, with_registers}

-- from the instruction's address plus 4
abbrev pub target_at : Local → ℤ → ℕ
target_at l offset = wrap (wrap (l.registers.pc + 4) + word_of offset)

-- a branch that is taken or not
abbrev pub taken_if : Bool → ℤ → Local → Finished
taken_if taken offset l = if taken then Ok (l, Jump (target_at l offset)) else Ok (l, Next)

-- LR is the next instruction's address with bit 0 set
abbrev pub linked : Local → ℕ → Local
linked l next = with_registers l (record l.registers { lr = even_of next + 1 })

-- BL, of four bytes
abbrev pub finish_link : ℤ → Local → Finished
finish_link offset l = Ok (linked l (wrap (l.registers.pc + 4)), Jump (target_at l offset))

-- CBZ and CBNZ
abbrev pub finish_zero : Bool → ℕ → ℤ → Local → Finished
finish_zero nonzero rn offset l = taken_if (if reg l rn == 0 then not nonzero else nonzero) offset l

-- BXNS is undefined in Non-secure state
abbrev pub exchange_ns : Side → Local → ℕ → Finished
exchange_ns Secure l target = Ok (l, Exchange target true)
exchange_ns NonSecure l target = Err Undef

-- BX and BXNS
abbrev pub finish_exchange : ℕ → Bool → Local → Finished
finish_exchange rm false l = Ok (l, Exchange (reg l rm) false)
finish_exchange rm true l = exchange_ns l.side l (reg l rm)

-- BLX, of two bytes: T is bit 0 of the target
abbrev pub called : Local → ℕ → Local
called l target =
    with_registers l (record l.registers { lr = even_of (wrap (l.registers.pc + 2)) + 1; t = target % 2 == 1 })

abbrev pub links : Local → ℕ → Finished
links l target = Ok (called l target, Jump (even_of target))

-- BLXNS is undefined in Non-secure state; where bit 0 of the target is 1 it is BLX, and else Non-secure code is
-- called
abbrev pub call_ns : Side → Local → ℕ → Finished
call_ns Secure l target = if target % 2 == 1 then links l target else Ok (l, Call target)
call_ns NonSecure l target = Err Undef

-- BLX and BLXNS
abbrev pub finish_call : ℕ → Bool → Local → Finished
finish_call rm false l = links l (reg l rm)
finish_call rm true l = call_ns l.side l (reg l rm)

-- TBB and TBH: a byte or a halfword of a table counts halfwords from the instruction's address plus 4
abbrev pub entry_of : Bool → ℕ → ℕ → Local → Access
entry_of false rn rm l = Load Byte (wrap (reg l rn + reg l rm)) aligned_by_ccr as_running
entry_of true rn rm l = Load Half (wrap (reg l rn + 2 * reg l rm)) aligned_by_ccr as_running

abbrev pub finish_table : ℕ → Local → Finished
finish_table entry l = Ok (l, Jump (wrap (wrap (l.registers.pc + 4) + 2 * entry)))

-- IT
abbrev pub finish_it : ℕ → ℕ → Local → Finished
finish_it cond mask l = Ok (with_registers l (record l.registers { it = it_of cond mask }), Next)

-- the accesses of an instruction of this family
abbrev pub plan_branch : Insn → Local → List Access
plan_branch (TableBranch half rn rm) l = entry_of half rn rm l ∷ []
plan_branch insn l = []

-- what an instruction of this family leaves, given the words that its accesses read
abbrev pub finish_branch : Insn → Local → List ℕ → Finished
finish_branch (Branch offset) l words = taken_if true offset l
finish_branch (BranchIf cond offset) l words = taken_if (condition_holds cond l.registers.apsr) offset l
finish_branch (BranchLink offset) l words = finish_link offset l
finish_branch (BranchZero nonzero rn offset) l words = finish_zero nonzero rn offset l
finish_branch (TableBranch half rn rm) l words = finish_table (slice_index words 0) l
finish_branch (BranchExchange rm ns) l words = finish_exchange rm ns l
finish_branch (CallExchange rm ns) l words = finish_call rm ns l
finish_branch (IfThen cond mask) l words = finish_it cond mask l
finish_branch insn l words = Err Undef
