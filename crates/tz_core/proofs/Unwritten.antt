-- What leaves memory as it was: reads and writes of system registers, and system instructions.
use Rattle.std.proofs.Common.{◌≡◌, ℕ, ◌%◌, Bool, true, false, cond, Option, Some, None, refl, ap}
use Rattle.tz_table.specs.declared.units.Side.{Side}
use Rattle.tz_table.specs.declared.units.Side.TheVariants.{Secure, NonSecure}
use Rattle.tz_table.specs.declared.units.Size.{Size}
use Rattle.tz_table.specs.declared.units.Size.TheVariants.{Byte, Half, Word}
use Rattle.tz_table.specs.declared.instruction.Insn.{Insn}
use Rattle.tz_state.specs.declared.register.ControlRegister.{ControlRegister}
use Rattle.tz_state.specs.declared.register.ControlRegister.TheVariants.{Cpuid}
use Rattle.tz_state.specs.declared.register.Narrow.{Narrow}
use Rattle.tz_state.specs.declared.register.Narrow.TheVariants.{Keeps, Zeros, Ignored}
use Rattle.tz_state.specs.declared.register.Register.{Register}
use Rattle.tz_state.specs.declared.register.Register.TheVariants.{Ictr, Control, Mpu}
use Rattle.tz_state.specs.declared.register.ViewedRegister.{ViewedRegister}
use Rattle.tz_state.specs.State.{Bus, with_monitor}
use Rattle.tz_state.specs.SystemRegisters.{SystemState, after_read, control_written, written}
use Rattle.tz_state.specs.Views.{narrow_of, narrow_written, sized_written, found_at, found_read, found_written, system_read, system_written}
use Rattle.tz_sem.specs.System.{clears_monitor}
use Rattle.tz_sem.specs.Exec.{cleared_by}

-- ---- a read

after_kept : (side : Side) (s : SystemState) (r : Register) → (after_read side s r).bus ≡ s.bus
after_kept side s Ictr = refl
after_kept side s r = refl

found_read_kept : (s : SystemState) (f : Option ViewedRegister) → (found_read s f).bus ≡ s.bus
found_read_kept s None = refl
found_read_kept s (Some f) = after_kept f.view s f.register

pub read_kept : (side : Side) (s : SystemState) (a : ℕ) → (system_read side s a).bus ≡ s.bus
read_kept side s a = found_read_kept s (found_at side a)

-- ---- a write

control_kept : (side : Side) (s : SystemState) (r : ControlRegister) (value : ℕ) → (control_written side s r value).bus ≡ s.bus
control_kept side s Cpuid value = refl
control_kept side s r value = refl

register_kept : (side : Side) (s : SystemState) (r : Register) (value : ℕ) → (written side s r value).bus.memory ≡ s.bus.memory
register_kept side s (Control r) value = ap (λ (b : Bus). b.memory) (control_kept side s r value)
register_kept Secure s (Mpu r) value = refl
register_kept NonSecure s (Mpu r) value = refl
register_kept side s r value = refl

narrow_kept : (side : Side) (s : SystemState) (r : Register) (narrow : Narrow) (lane : ℕ) (size : Size) (value : ℕ) → (narrow_written side s r narrow lane size value).bus.memory ≡ s.bus.memory
narrow_kept side s r Keeps lane size value = register_kept side s r _
narrow_kept side s r Zeros lane size value = register_kept side s r _
narrow_kept side s r Ignored lane size value = refl

sized_kept : (side : Side) (s : SystemState) (r : Register) (lane : ℕ) (size : Size) (value : ℕ) → (sized_written side s r lane size value).bus.memory ≡ s.bus.memory
sized_kept side s r lane Byte value = narrow_kept side s r (narrow_of r) lane Byte value
sized_kept side s r lane Half value = narrow_kept side s r (narrow_of r) lane Half value
sized_kept side s r lane Word value = register_kept side s r value

found_kept : (s : SystemState) (f : Option ViewedRegister) (lane : ℕ) (size : Size) (value : ℕ) → (found_written s f lane size value).bus.memory ≡ s.bus.memory
found_kept s None lane size value = refl
found_kept s (Some f) lane size value = sized_kept f.view s f.register lane size value

pub write_kept : (side : Side) (s : SystemState) (a : ℕ) (size : Size) (value : ℕ) → (system_written side s a size value).bus.memory ≡ s.bus.memory
write_kept side s a size value = found_kept s (found_at side a) (a % 4) size value

-- ---- a system instruction

pub cleared_kept : (i : Insn) (b : Bus) → (cleared_by i b).memory ≡ b.memory
cleared_kept i b = by (clears_monitor i) where
  by : (t : Bool) → (cond t (with_monitor b None) b).memory ≡ b.memory
  by true = refl
  by false = refl
