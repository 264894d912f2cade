-- The operation of each instruction that is built (DDI0553, chapter C2), on the state of the machine.
use Rattle.std.specs.Prelude.{ℕ, ℤ, not, if◌then◌else◌, List, [], Result, Ok, Err, Option, Some, None}
use Rattle.tz_table.specs.declared.instruction.Insn.{Insn}
use Rattle.tz_table.specs.declared.instruction.Insn.TheVariants as insns
use Rattle.tz_model.specs.declared.report.Fault.{Fault}
use Rattle.tz_model.specs.declared.report.Fault.TheVariants.{Unaligned}
use Rattle.tz_model.specs.declared.report.Outcome.{Outcome}
use Rattle.tz_model.specs.declared.report.Outcome.TheVariants.{Next}
use Rattle.tz_model.specs.declared.report.Store as stored
use Rattle.tz_model.specs.Ports.{Access, Answering, answers}
use Rattle.tz_regs.specs.declared.parts.Core.{Core}
use Rattle.tz_regs.specs.Special.{named_of}
use Rattle.tz_state.specs.declared.probe.Probe.{Probe}
use Rattle.tz_state.specs.declared.request.Exclusive.{Exclusive}
use Rattle.tz_state.specs.State.{Bus, State, priority_in, is_held, with_core, with_bus, with_monitor}
use Rattle.tz_state.specs.Access.{is_aligned, Reached, reached_in, access}
use Rattle.tz_state.specs.Target.{target_word}
use Rattle.tz_sem.specs.declared.family.Family.{Family}
use Rattle.tz_sem.specs.declared.family.Family.TheVariants.{Alu, LoadStore, Branch, System}
use Rattle.tz_sem.specs.Local.{Local, Finished, local_of, with_local, put, finished_in, finished_named}
use Rattle.tz_sem.specs.Alu.{finish_alu}
use Rattle.tz_sem.specs.LoadStore.{offset_at, refusal, plan_load_store, finish_load_store}
use Rattle.tz_sem.specs.Branch.{plan_branch, finish_branch}
use Rattle.tz_sem.specs.System.{finish_system, clears_monitor, probe_of}

-- ---- over any port

-- what an instruction leaves of the core and of what a port holds, and how it goes on or its fault
pub record Ported (H : Type 0) : Type 0 where
  pub core : Core
  pub held : H
  pub outcome : Result Outcome Fault

abbrev pub ported : {H : Type 0} → H → Core × Result Outcome Fault → Ported H
ported h (c, outcome) = record { core = c; held = h; outcome = outcome }

-- after its accesses; where one faulted, the core is as it was, and the accesses before it stand
abbrev pub after_accesses : {H : Type 0} → Core → H × Result (List ℕ) Fault → (List ℕ → Finished) → Ported H
after_accesses c (h, Ok words) finish = ported h (finished_in c (finish words))
after_accesses c (h, Err fault) finish = record { core = c; held = h; outcome = Err fault }

-- an instruction by its accesses and by what it leaves once these gave their words
abbrev pub over : {H : Type 0} → Answering H → Core → H → List Access → (List ℕ → Finished) → Ported H
over one c h plan finish = after_accesses c (answers one h plan) finish

-- one that may be refused before it makes an access
abbrev pub unless_refused : {H : Type 0} → Option Fault → Core → H → Ported H → Ported H
unless_refused (Some fault) c h p = record { core = c; held = h; outcome = Err fault }
unless_refused None c h p = p

-- loads and stores, and branches, over a port
abbrev pub load_store_over : {H : Type 0} → Answering H → Insn → Core → H → Ported H
load_store_over one i c h =
    unless_refused (refusal i (local_of c)) c h (over one c h (plan_load_store i (local_of c)) (finish_load_store i (local_of c)))

abbrev pub branch_over : {H : Type 0} → Answering H → Insn → Core → H → Ported H
branch_over one i c h = over one c h (plan_branch i (local_of c)) (finish_branch i (local_of c))

-- ---- on the state

-- the family that an instruction belongs to
abbrev pub family_of : Insn → Family
family_of (insns.DataImm op flags rd rn imm12) = Alu
family_of (insns.DataReg op flags rd rn rm kind amount) = Alu
family_of (insns.ShiftReg kind flags rd rn rm) = Alu
family_of (insns.AddWide sub rd rn imm) = Alu
family_of (insns.Adr rd offset) = Alu
family_of (insns.MovWide top rd imm) = Alu
family_of (insns.Saturate signed rd rn bits asr amount) = Alu
family_of (insns.BitField op rd rn low width) = Alu
family_of (insns.Extend op rd rm rotation) = Alu
family_of (insns.Reverse op rd rm) = Alu
family_of (insns.Multiply op flags rd rn rm ra) = Alu
family_of (insns.MultiplyLong op lo hi rn rm) = Alu
family_of (insns.Divide signed rd rn rm) = Alu
family_of (insns.Branch offset) = Branch
family_of (insns.BranchIf cond offset) = Branch
family_of (insns.BranchLink offset) = Branch
family_of (insns.BranchZero nonzero rn offset) = Branch
family_of (insns.TableBranch half rn rm) = Branch
family_of (insns.BranchExchange rm ns) = Branch
family_of (insns.CallExchange rm ns) = Branch
family_of (insns.IfThen cond mask) = Branch
family_of (insns.Hint op) = System
family_of (insns.Barrier op option) = System
family_of (insns.ChangeState disable i f) = System
family_of (insns.ReadSpecial rd sysm) = System
family_of (insns.WriteSpecial rn sysm) = System
family_of (insns.TestTarget a t rd rn) = System
family_of insns.SecureGateway = System
family_of (insns.LazyState load rn) = System
family_of (insns.Supervisor imm) = System
family_of (insns.Breakpoint imm) = System
family_of (insns.Undefined imm) = System
family_of insn = LoadStore

-- a system instruction: the word of its probe, then what it leaves; CLREX clears the monitor
abbrev pub probed : Bus → Option Probe → ℕ
probed b None = 0
probed b (Some p) = target_word b p

abbrev pub cleared_by : Insn → Bus → Bus
cleared_by i b = if clears_monitor i then with_monitor b None else b

abbrev pub system_over : ℤ → Insn → Core → Bus → Ported Bus
system_over priority i c b =
    ported (cleared_by i b) (finished_named c (finish_system priority i (named_of c) (probed b (probe_of priority i (named_of c)))))

-- the state after an instruction but for PC and the IT state, the stores that it made, and how it goes on
-- or its fault
pub record Executed : Type 0 where
  pub state : State
  pub stores : List stored.Store
  pub outcome : Result Outcome Fault

-- of an instruction that makes no access
abbrev pub alone : State → Core × Result Outcome Fault → Executed
alone s (c, outcome) = record { state = with_core s c; stores = []; outcome = outcome }

-- of one that asks the bus alone
abbrev pub beside : State → Ported Bus → Executed
beside s p = record { state = record s { core = p.core; bus = p.held }; stores = []; outcome = p.outcome }

-- of one over the machine's port, whose accesses may have written system registers
abbrev pub through : State → Ported Reached → Executed
through s p =
    record {
      state = record s {
        core = record p.core { status = p.held.system.status };
        exceptions = p.held.system.exceptions;
        bus = p.held.system.bus;
      };
      stores = p.held.stores;
      outcome = p.outcome;
    }

-- ---- the exclusive monitor

-- what an instruction has to do with it: nothing; it is set after the load; or the store is only made where it
-- holds this address and size, and a register tells whether it was
pub data Exclusivity : Type 0 where
  Free : Exclusivity
  Marks : (e : Exclusive) → Exclusivity
  Takes : (e : Exclusive) (rd : ℕ) → Exclusivity

abbrev pub exclusivity : Insn → Local → Exclusivity
exclusivity (insns.LoadExclusive size acquire rt rn offset) l = Marks (record { addr = offset_at l rn offset; size = size })
exclusivity (insns.StoreExclusive size release rd rt rn offset) l = Takes (record { addr = offset_at l rn offset; size = size }) rd
exclusivity insn l = Free

-- a load that succeeded sets it
abbrev pub marked_by : Result Outcome Fault → Exclusive → Option Exclusive → Option Exclusive
marked_by (Ok outcome) e before = Some e
marked_by (Err fault) e before = before

abbrev pub marked : Exclusive → Executed → Executed
marked e x = record x { state = with_bus x.state (with_monitor x.state.bus (marked_by x.outcome e x.state.bus.monitor)) }

-- it holds nothing
abbrev pub released : State → State
released s = with_bus s (with_monitor s.bus None)

-- (own) a store that isn't made answers 1, and makes no access and no check of one but that of its alignment
abbrev pub not_stored : State → ℕ → Executed
not_stored s rd = alone s (with_local s.core (put (local_of s.core) rd 1), Ok Next)

-- loads and stores of the running code over the machine's port
abbrev pub loads_stores : State → Insn → Executed
loads_stores s i = through s (load_store_over access i s.core (reached_in s))

-- a store exclusive: unaligned, it leaves the monitor; else the monitor is cleared, whether it stores or not
abbrev pub stores_exclusive : State → Insn → Exclusive → ℕ → Executed
stores_exclusive s i e rd =
    if not (is_aligned e.size e.addr) then alone s (s.core, Err Unaligned)
    else if is_held s.bus.monitor e then loads_stores (released s) i
    else not_stored (released s) rd

abbrev pub exclusively : Exclusivity → State → Insn → Executed
exclusively Free s i = loads_stores s i
exclusively (Marks e) s i = marked e (loads_stores s i)
exclusively (Takes e rd) s i = stores_exclusive s i e rd

-- ---- by family

abbrev pub executed_by : Family → State → Insn → Executed
executed_by Alu s i = alone s (finished_in s.core (finish_alu i (local_of s.core)))
executed_by LoadStore s i = exclusively (exclusivity i (local_of s.core)) s i
executed_by Branch s i = through s (branch_over access i s.core (reached_in s))
executed_by System s i = beside s (system_over (priority_in s) i s.core s.bus)

-- an instruction of the running code
abbrev pub executed : State → Insn → Executed
executed s i = executed_by (family_of i) s i
