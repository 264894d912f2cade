-- A register written through what running code can name, and through what most instructions work on.
use Rattle.std.proofs.Common.{◌≡◌, ℕ, refl}
use Rattle.tz_table.specs.declared.units.Side.{Side}
use Rattle.tz_table.specs.declared.units.Side.TheVariants.{Secure, NonSecure}
use Rattle.tz_regs.specs.declared.parts.Core.{Core}
use Rattle.tz_regs.specs.declared.parts.SideMasks.{SideMasks}
use Rattle.tz_regs.specs.Banks.{secure_after, stacks_of}
use Rattle.tz_regs.specs.Registers.{with_reg, with_reg_stacks}
use Rattle.tz_regs.specs.Special.{named_of, with_named}
use Rattle.tz_sem.specs.Local.{local_of, with_local, put}

masks_kept : (side : Side) (m : SideMasks) → secure_after side m m ≡ m
masks_kept Secure m = refl
masks_kept NonSecure m = refl

-- both leave the same core
pub put_named : (c : Core) (k value : ℕ)
    → with_named c (record (named_of c) { registers = with_reg c.registers k value; own = with_reg_stacks c.registers.ipsr (stacks_of c.run.side c) k value })
    ≡ with_local c (put (local_of c) k value)
put_named c k value = rw (masks_kept c.run.side c.masks.s) refl
