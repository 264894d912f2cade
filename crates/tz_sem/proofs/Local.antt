-- A core of which its code leaves its own stacks, or all that it has, as they were.
use Rattle.std.proofs.Common.{◌≡◌, refl}
use Rattle.tz_table.specs.declared.units.Side.{Side}
use Rattle.tz_table.specs.declared.units.Side.TheVariants.{Secure, NonSecure}
use Rattle.tz_regs.specs.declared.parts.Core.{Core}
use Rattle.tz_regs.specs.declared.parts.Registers.{Registers}
use Rattle.tz_regs.specs.declared.parts.Stacks.{Stacks}
use Rattle.tz_regs.specs.Banks.{of_side, secure_after, nonsecure_after}
use Rattle.tz_sem.specs.Local.{with_registers, local_of, with_local}

secure_kept : (side : Side) (s ns : Stacks) → secure_after side (of_side side s ns) s ≡ s
secure_kept Secure s ns = refl
secure_kept NonSecure s ns = refl

nonsecure_kept : (side : Side) (s ns : Stacks) → nonsecure_after side (of_side side s ns) ns ≡ ns
nonsecure_kept Secure s ns = refl
nonsecure_kept NonSecure s ns = refl

-- registers that the running code leaves: its stacks stand where they stood
pub registers_put : (c : Core) (r : Registers) → with_local c (with_registers (local_of c) r) ≡ record c { registers = r }
registers_put c r = rw (secure_kept c.run.side c.stacks_s c.stacks_ns, nonsecure_kept c.run.side c.stacks_s c.stacks_ns)

-- the core with what its code has of it is that core
pub core_kept : (c : Core) → with_local c (local_of c) ≡ c
core_kept c = registers_put c c.registers
