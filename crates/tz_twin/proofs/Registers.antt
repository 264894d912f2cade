-- The system registers as Non-secure code has them: what they show is open, and so is what a read or a write leaves.
use Rattle.std.proofs.Common.{◌≡◌, ℕ, ◌-◌, ◌/◌, ◌*◌, ◌%◌, Bool, true, false, cond, Option, Some, None, refl, sym, ap, ◌∙◌, subst}
use Rattle.tz_table.specs.declared.units.Side.TheVariants.{NonSecure}
use Rattle.tz_table.specs.declared.units.Size.{Size}
use Rattle.tz_table.specs.declared.units.Size.TheVariants.{Byte, Half, Word}
use Rattle.tz_model.specs.Board.{within}
use Rattle.tz_regs.specs.declared.parts.SideStatus.{SideStatus}
use Rattle.tz_regs.specs.declared.parts.BusStatus.{BusStatus}
use Rattle.tz_state.specs.declared.register.Register.{Register}
use Rattle.tz_state.specs.declared.register.Register.TheVariants.{Ictr, Stir, Timer, Bits, Priorities, Control, Fault, Mover, Mpu, Sau}
use Rattle.tz_state.specs.declared.register.ControlRegister.{ControlRegister}
use Rattle.tz_state.specs.declared.register.ControlRegister.TheVariants.{Cpuid, Icsr, Vtor, Aircr, Ccr, Shpr1, Shpr2, Shpr3, Shcsr}
use Rattle.tz_state.specs.declared.register.FaultRegister.{FaultRegister}
use Rattle.tz_state.specs.declared.register.FaultRegister.TheVariants.{Cfsr, Hfsr, Mmfar, Bfar, Sfsr, Sfar}
use Rattle.tz_state.specs.declared.register.ViewedRegister.{ViewedRegister}
use Rattle.tz_state.specs.declared.register.Narrow.{Narrow}
use Rattle.tz_state.specs.declared.register.Narrow.TheVariants.{Keeps, Zeros, Ignored}
use Rattle.tz_state.specs.Slots.{ExceptionsValue}
use Rattle.tz_state.specs.Protection.{MpuState}
use Rattle.tz_state.specs.NvicRegisters.{priorities_written}
use Rattle.tz_state.specs.ControlRegisters.{icsr_written, shpr_written, shcsr_written}
use Rattle.tz_state.specs.FaultRegisters.{if_bus, cfsr_of, fault_written}
use Rattle.tz_state.specs.RegisterTable.{register_at}
use Rattle.tz_state.specs.SystemRegisters.{SystemState, value_of, after_read, written}
use Rattle.tz_state.specs.Views.{found_by, found_at, part_of, with_part, narrow_of, narrow_written, sized_written, found_value, found_read, found_written, system_value, system_read, system_written}
use Rattle.tz_state.specs.Access.{system_in}
use Rattle.tz_twin.proofs.Split.{Open, Rest, join, Same}

abbrev pub system_of : Open → Rest → SystemState
system_of o x = system_in (join o x)

-- ---- values

if_bus_same : (f : Bool) (n n' : ℕ) → (f ≡ true → n ≡ n') → if_bus NonSecure f n ≡ if_bus NonSecure f n'
if_bus_same true n n' e = e refl
if_bus_same false n n' e = refl

fault_same : (o : Open) (x x' : Rest) (r : FaultRegister) → Same o x x' → value_of NonSecure (system_of o x) (Fault r) ≡ value_of NonSecure (system_of o x') (Fault r)
fault_same o x x' Cfsr same =
    ap (λ (n : ℕ). cfsr_of o.status_ns.mmfsr n o.status_ns.ufsr)
    (if_bus_same o.exceptions.bfhfnmins x.bus.bfsr x'.bus.bfsr (λ e. ap (λ (b : BusStatus). b.bfsr) (same.bus e)))
fault_same o x x' Hfsr same = if_bus_same o.exceptions.bfhfnmins x.bus.hfsr x'.bus.hfsr (λ e. ap (λ (b : BusStatus). b.hfsr) (same.bus e))
fault_same o x x' Bfar same = if_bus_same o.exceptions.bfhfnmins x.bus.bfar x'.bus.bfar (λ e. ap (λ (b : BusStatus). b.bfar) (same.bus e))
fault_same o x x' Mmfar same = refl
fault_same o x x' Sfsr same = refl
fault_same o x x' Sfar same = refl

-- what a register shows
value_same : (o : Open) (x x' : Rest) (r : Register) → Same o x x' → value_of NonSecure (system_of o x) r ≡ value_of NonSecure (system_of o x') r
value_same o x x' (Fault r) same = fault_same o x x' r same
value_same o x x' (Control Cpuid) same = refl
value_same o x x' (Control _) same = refl
value_same o x x' _ same = refl

-- ---- what is left

-- what Non-secure code may write by system registers, but for the registers of bus faults
pub record Written : Type 0 where
  pub status : SideStatus
  pub exceptions : ExceptionsValue
  pub mpu : MpuState

abbrev pub written_of : SystemState → Written
written_of s = record { status = s.status.ns; exceptions = s.exceptions; mpu = s.bus.mpu_ns }

abbrev pub moved : Open → Written → Open
moved o w = record o { status_ns = w.status; exceptions = w.exceptions; mpu_ns = w.mpu }

-- two states of the system registers after open parts and rests: the same is written in both, and the rests are
-- still the same to Non-secure code
pub record SameSystems (o : Open) (x x' : Rest) (s s' : SystemState) : Type 0 where
  pub part : Written
  pub bus : BusStatus
  pub bus' : BusStatus
  pub state : s ≡ system_of (moved o part) (record x { bus = bus })
  pub state' : s' ≡ system_of (moved o part) (record x' { bus = bus' })
  pub same : part.exceptions.bfhfnmins ≡ true → bus ≡ bus'

unwritten : (o : Open) (x x' : Rest) → Same o x x' → SameSystems o x x' (system_of o x) (system_of o x')
unwritten o x x' same = record {
  part = written_of (system_of o x);
  bus = x.bus;
  bus' = x'.bus;
  state = refl;
  state' = refl;
  same = same.bus;
}

-- the registers of bus faults after a write
bus_after : Open → Rest → FaultRegister → ℕ → BusStatus → BusStatus
bus_after o x r value b = (fault_written NonSecure o.exceptions.bfhfnmins (record (system_of o x).status { bus = b }) r value).bus

-- a write that leaves them as they were
elsewhere : (o : Open) (x x' : Rest) (r : Register) (value : ℕ) → Same o x x'
    → written NonSecure (system_of o x) r value ≡ system_of (moved o (written_of (written NonSecure (system_of o x) r value))) x
    → written NonSecure (system_of o x') r value ≡ system_of (moved o (written_of (written NonSecure (system_of o x) r value))) x'
    → (written NonSecure (system_of o x) r value).exceptions.bfhfnmins ≡ o.exceptions.bfhfnmins
    → SameSystems o x x' (written NonSecure (system_of o x) r value) (written NonSecure (system_of o x') r value)
elsewhere o x x' r value same here there f = record {
  part = written_of (written NonSecure (system_of o x) r value);
  bus = x.bus;
  bus' = x'.bus;
  state = here;
  state' = there;
  same = λ e. same.bus (sym f ∙ e);
}

-- a write of theirs
of_bus : (o : Open) (x x' : Rest) (r : FaultRegister) (value : ℕ) → Same o x x'
    → written NonSecure (system_of o x) (Fault r) value
    ≡ system_of (moved o (written_of (written NonSecure (system_of o x) (Fault r) value))) (record x { bus = bus_after o x r value x.bus })
    → written NonSecure (system_of o x') (Fault r) value
    ≡ system_of (moved o (written_of (written NonSecure (system_of o x) (Fault r) value))) (record x' { bus = bus_after o x r value x'.bus })
    → SameSystems o x x' (written NonSecure (system_of o x) (Fault r) value) (written NonSecure (system_of o x') (Fault r) value)
of_bus o x x' r value same here there = record {
  part = written_of (written NonSecure (system_of o x) (Fault r) value);
  bus = bus_after o x r value x.bus;
  bus' = bus_after o x r value x'.bus;
  state = here;
  state' = there;
  same = λ e. ap (bus_after o x r value) (same.bus e);
}

fault_written_same : (o : Open) (x x' : Rest) (r : FaultRegister) (value : ℕ) → Same o x x'
    → SameSystems o x x' (written NonSecure (system_of o x) (Fault r) value) (written NonSecure (system_of o x') (Fault r) value)
unfolding bus_after
fault_written_same o x x' Cfsr value same = of_bus o x x' Cfsr value same refl refl
fault_written_same o x x' Hfsr value same = of_bus o x x' Hfsr value same refl refl
fault_written_same o x x' Bfar value same = of_bus o x x' Bfar value same refl refl
fault_written_same o x x' Mmfar value same = elsewhere o x x' (Fault Mmfar) value same refl refl refl
fault_written_same o x x' Sfsr value same = elsewhere o x x' (Fault Sfsr) value same refl refl refl
fault_written_same o x x' Sfar value same = elsewhere o x x' (Fault Sfar) value same refl refl refl

control_written_same : (o : Open) (x x' : Rest) (r : ControlRegister) (value : ℕ) → Same o x x'
    → SameSystems o x x' (written NonSecure (system_of o x) (Control r) value) (written NonSecure (system_of o x') (Control r) value)
unfolding icsr_written shpr_written shcsr_written
control_written_same o x x' Cpuid value same = elsewhere o x x' (Control Cpuid) value same refl refl refl
control_written_same o x x' Icsr value same = elsewhere o x x' (Control Icsr) value same refl refl refl
control_written_same o x x' Vtor value same = elsewhere o x x' (Control Vtor) value same refl refl refl
control_written_same o x x' Aircr value same = elsewhere o x x' (Control Aircr) value same refl refl refl
control_written_same o x x' Ccr value same = elsewhere o x x' (Control Ccr) value same refl refl refl
control_written_same o x x' Shpr1 value same = elsewhere o x x' (Control Shpr1) value same refl refl refl
control_written_same o x x' Shpr2 value same = elsewhere o x x' (Control Shpr2) value same refl refl refl
control_written_same o x x' Shpr3 value same = elsewhere o x x' (Control Shpr3) value same refl refl refl
control_written_same o x x' Shcsr value same = elsewhere o x x' (Control Shcsr) value same refl refl refl

-- what a word written to a register leaves
word_written : (o : Open) (x x' : Rest) (r : Register) (value : ℕ) → Same o x x'
    → SameSystems o x x' (written NonSecure (system_of o x) r value) (written NonSecure (system_of o x') r value)
unfolding priorities_written
word_written o x x' Ictr value same = elsewhere o x x' Ictr value same refl refl refl
word_written o x x' Stir value same = elsewhere o x x' Stir value same refl refl refl
word_written o x x' (Timer r) value same = elsewhere o x x' (Timer r) value same refl refl refl
word_written o x x' (Bits bank word) value same = elsewhere o x x' (Bits bank word) value same refl refl refl
word_written o x x' (Priorities word) value same = elsewhere o x x' (Priorities word) value same refl refl refl
word_written o x x' (Mover r) value same = elsewhere o x x' (Mover r) value same refl refl refl
word_written o x x' (Mpu r) value same = elsewhere o x x' (Mpu r) value same refl refl refl
word_written o x x' (Sau r) value same = elsewhere o x x' (Sau r) value same refl refl refl
word_written o x x' (Control r) value same = control_written_same o x x' r value same
word_written o x x' (Fault r) value same = fault_written_same o x x' r value same

-- ---- by address and size

narrow_same : (o : Open) (x x' : Rest) (r : Register) (n : Narrow) (lane : ℕ) (size : Size) (value : ℕ) → Same o x x'
    → SameSystems o x x' (narrow_written NonSecure (system_of o x) r n lane size value) (narrow_written NonSecure (system_of o x') r n lane size value)
narrow_same o x x' r Keeps lane size value same =
    subst
    (λ (w : ℕ). SameSystems o x x' (written NonSecure (system_of o x) r (with_part (value_of NonSecure (system_of o x) r) lane size value)) (written NonSecure (system_of o x') r (with_part w lane size value)))
    (value_same o x x' r same) (word_written o x x' r (with_part (value_of NonSecure (system_of o x) r) lane size value) same)
narrow_same o x x' r Zeros lane size value same = word_written o x x' r (with_part 0 lane size value) same
narrow_same o x x' r Ignored lane size value same = unwritten o x x' same

sized_same : (o : Open) (x x' : Rest) (r : Register) (lane : ℕ) (size : Size) (value : ℕ) → Same o x x'
    → SameSystems o x x' (sized_written NonSecure (system_of o x) r lane size value) (sized_written NonSecure (system_of o x') r lane size value)
sized_same o x x' r lane Byte value same = narrow_same o x x' r (narrow_of r) lane Byte value same
sized_same o x x' r lane Half value same = narrow_same o x x' r (narrow_of r) lane Half value same
sized_same o x x' r lane Word value same = word_written o x x' r value same

-- a fact of each register as Non-secure code names it, and of no register, is a fact of each address
at_view : (P : Option ViewedRegister → Type 0) → P None → ((r : Register) → P (Some (record { view = NonSecure; register = r }))) → (r : Option Register) → P (found_by NonSecure r)
at_view P none some None = none
at_view P none some (Some r) = some r

in_view : (P : Option ViewedRegister → Type 0) → P None → ((r : Register) → P (Some (record { view = NonSecure; register = r }))) → (b : Bool) (r : Option Register) → P (cond b (found_by NonSecure r) None)
in_view P none some true r = at_view P none some r
in_view P none some false r = none

pub at_address : (P : Option ViewedRegister → Type 0) → P None → ((r : Register) → P (Some (record { view = NonSecure; register = r }))) → (a : ℕ) → P (found_at NonSecure a)
at_address P none some a = in_view P none some (within 0xE000E000 0xE000EFFF a) (register_at ((a - 0xE000E000) / 4 * 4))

-- what an access reads
pub system_value_same : (o : Open) (x x' : Rest) (a : ℕ) (size : Size) → Same o x x' → system_value NonSecure (system_of o x) a size ≡ system_value NonSecure (system_of o x') a size
system_value_same o x x' a size same =
    at_address (λ f. found_value (system_of o x) f (a % 4) size ≡ found_value (system_of o x') f (a % 4) size) refl
    (λ r. ap (λ (w : ℕ). part_of w (a % 4) size) (value_same o x x' r same)) a

-- what it leaves: a read of a timer may clear COUNTFLAG
read_same : (o : Open) (x x' : Rest) (r : Register) → Same o x x' → SameSystems o x x' (after_read NonSecure (system_of o x) r) (after_read NonSecure (system_of o x') r)
read_same o x x' (Timer r) same = record {
  part = written_of (after_read NonSecure (system_of o x) (Timer r));
  bus = x.bus;
  bus' = x'.bus;
  state = refl;
  state' = refl;
  same = same.bus;
}
read_same o x x' Ictr same = unwritten o x x' same
read_same o x x' _ same = unwritten o x x' same

pub system_read_same : (o : Open) (x x' : Rest) (a : ℕ) → Same o x x' → SameSystems o x x' (system_read NonSecure (system_of o x) a) (system_read NonSecure (system_of o x') a)
system_read_same o x x' a same =
    at_address (λ f. SameSystems o x x' (found_read (system_of o x) f) (found_read (system_of o x') f)) (unwritten o x x' same)
    (λ r. read_same o x x' r same) a

pub system_written_same : (o : Open) (x x' : Rest) (a : ℕ) (size : Size) (value : ℕ) → Same o x x'
    → SameSystems o x x' (system_written NonSecure (system_of o x) a size value) (system_written NonSecure (system_of o x') a size value)
system_written_same o x x' a size value same =
    at_address (λ f. SameSystems o x x' (found_written (system_of o x) f (a % 4) size value) (found_written (system_of o x') f (a % 4) size value)) (unwritten o x x' same)
    (λ r. sized_same o x x' r (a % 4) size value same) a
