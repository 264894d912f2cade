-- System instructions: special registers, masks, hints, barriers, TT, and the exceptions that code raises.
use Rattle.std.specs.Prelude.{ℕ, ◌==◌, Bool, true, false, if◌then◌else◌, Option, Some, None, Ok, Err, ℤ}
use Rattle.tz_table.specs.declared.units.Side.{Side}
use Rattle.tz_table.specs.declared.units.Side.TheVariants.{Secure, NonSecure}
use Rattle.tz_table.specs.declared.instruction.BarrierOp.TheVariants.{Clrex}
use Rattle.tz_table.specs.declared.instruction.Insn.{Insn}
use Rattle.tz_table.specs.declared.instruction.Insn.TheVariants.{Hint, Barrier, ChangeState, ReadSpecial, WriteSpecial, TestTarget, SecureGateway, LazyState, Supervisor, Breakpoint as Break}
use Rattle.tz_model.specs.declared.report.Fault.TheVariants.{Undef, StackLimit, Breakpoint, Call}
use Rattle.tz_model.specs.declared.report.Outcome.TheVariants.{Next, Sleep}
use Rattle.tz_regs.specs.Registers.{with_reg, with_reg_stacks, reg_of, is_privileged}
use Rattle.tz_regs.specs.Special.{Named, special_of, with_special, is_below_limit, changed_state}
use Rattle.tz_state.specs.declared.probe.Probe.{Probe}
use Rattle.tz_state.specs.State.{is_negative_at}
use Rattle.tz_sem.specs.Local.{FinishedNamed}

-- goes on with nothing changed
abbrev pub passes : Named → FinishedNamed
passes n = Ok (n, Next)

-- WFE: where the event flag is set it is cleared, else the core sleeps
abbrev pub waits_for_event : Named → FinishedNamed
waits_for_event n = if n.event then Ok (record n { event = false }, Next) else Ok (n, Sleep true)

-- WFE (2), WFI (3), which sleeps, and SEV (4), which sets the event flag; all others do nothing
abbrev pub finish_hint : ℕ → Named → FinishedNamed
finish_hint op n =
    if op == 2 then waits_for_event n
    else if op == 3 then Ok (n, Sleep false)
    else if op == 4 then Ok (record n { event = true }, Next)
    else passes n

-- barriers do nothing, but CLREX, which clears the exclusive monitor
abbrev pub clears_monitor : Insn → Bool
clears_monitor (Barrier Clrex option) = true
clears_monitor insn = false

-- R0 to R12, SP or LR after a write
abbrev pub put_named : Named → ℕ → ℕ → Named
put_named n k value =
    record n { registers = with_reg n.registers k value; own = with_reg_stacks n.registers.ipsr n.own k value }

-- MRS
abbrev pub finish_read : ℕ → ℕ → Named → FinishedNamed
finish_read rd sysm n = Ok (put_named n rd (special_of n sysm), Next)

-- MSR; SP_NS isn't written below its limit
abbrev pub finish_write : ℤ → ℕ → ℕ → Named → FinishedNamed
finish_write priority sysm value n =
    if is_below_limit n sysm value then Err (StackLimit NonSecure) else Ok (with_special n sysm value priority, Next)

-- VLSTM and VLLDM do nothing without a floating-point unit, and are undefined in Non-secure state
abbrev pub finish_lazy : Side → Named → FinishedNamed
finish_lazy Secure n = passes n
finish_lazy NonSecure n = Err Undef

-- what TT asks: T for an access without privilege, A at the Non-secure MPU, with the privilege there
abbrev pub asked : ℤ → Bool → Bool → ℕ → Named → Probe
asked priority a t rn n =
    record {
      addr = reg_of n.registers n.own rn;
      side = n.side;
      privileged = is_privileged n.registers.ipsr (if a then n.ns else n.own);
      negative = is_negative_at priority;
      alternate = a;
      user = t;
    }

abbrev pub probe_of : ℤ → Insn → Named → Option Probe
probe_of priority (TestTarget a t rd rn) n = Some (asked priority a t rn n)
probe_of priority insn n = None

-- TT; its forms TTA and TTAT are undefined in Non-secure state
abbrev pub finish_test : Side → Bool → ℕ → Named → ℕ → FinishedNamed
finish_test Secure a rd n word = Ok (put_named n rd word, Next)
finish_test NonSecure a rd n word = if a then Err Undef else Ok (put_named n rd word, Next)

-- what an instruction of this family leaves at an execution priority, given the word that its probe reads; (own) SG that isn't reached through a
-- gateway does nothing
abbrev pub finish_system : ℤ → Insn → Named → ℕ → FinishedNamed
finish_system priority (Hint op) n word = finish_hint op n
finish_system priority (Barrier op option) n word = passes n
finish_system priority (ChangeState disable i f) n word = Ok (changed_state priority disable i f n, Next)
finish_system priority (ReadSpecial rd sysm) n word = finish_read rd sysm n
finish_system priority (WriteSpecial rn sysm) n word = finish_write priority sysm (reg_of n.registers n.own rn) n
finish_system priority (TestTarget a t rd rn) n word = finish_test n.side a rd n word
finish_system priority SecureGateway n word = passes n
finish_system priority (LazyState load rn) n word = finish_lazy n.side n
finish_system priority (Supervisor imm) n word = Err Call
finish_system priority (Break imm) n word = Err Breakpoint
finish_system priority insn n word = Err Undef
