-- The special registers (DDI0553, `MRS`, `MSR`, `CPS`), by the number that an instruction names.
use Rattle.std.specs.Prelude.{ℕ, ◌+◌, ◌*◌, ◌/◌, ◌%◌, ◌^◌, ◌==◌, Bool, false, not, ◌&&◌, ◌||◌, nat_lt, if◌then◌else◌, Option, Some, None, ℤ, neg_ℤ, pos, int_lt}
use Rattle.tz_table.specs.declared.units.Side.{Side}
use Rattle.tz_table.specs.declared.units.Side.TheVariants.{Secure, NonSecure}
use Rattle.tz_regs.specs.declared.parts.Apsr.{Apsr}
use Rattle.tz_regs.specs.declared.parts.Core.{Core}
use Rattle.tz_regs.specs.declared.parts.Masks.{Masks}
use Rattle.tz_regs.specs.declared.parts.Registers.{Registers}
use Rattle.tz_regs.specs.declared.parts.SideMasks.{SideMasks}
use Rattle.tz_regs.specs.declared.parts.Stacks.{Stacks}
use Rattle.tz_regs.specs.declared.special.Special.{Special}
use Rattle.tz_regs.specs.declared.special.Special.TheVariants.{Msp, Psp, Msplim, Psplim, Primask, Basepri, BasepriMax, Faultmask, Control, Sp}
use Rattle.tz_regs.specs.Banks.{stacks_of, masks_of, with_masks, secure_after, nonsecure_after}
use Rattle.tz_regs.specs.Registers.{is_privileged, pointer_limit_of, pointer_of, with_pointer, word_aligned}
use Rattle.tz_regs.specs.RegisterBits.{control_spsel, apsr_n, apsr_z, apsr_c, apsr_v, apsr_q}

-- what running code can name: its registers, the stacks of its own and of the Non-secure side, the masks, and
-- the event flag
pub record Named : Type 0 where
  pub side : Side
  pub registers : Registers
  pub own : Stacks
  pub ns : Stacks
  pub masks : Masks
  pub event : Bool

abbrev pub named_of : Core → Named
named_of c =
    record {
      side = c.run.side;
      registers = c.registers;
      own = stacks_of c.run.side c;
      ns = c.stacks_ns;
      masks = c.masks;
      event = c.event;
    }

-- the core with what its code leaves of these; Non-secure code leaves the Secure side as it was
abbrev pub with_named : Core → Named → Core
with_named c n =
    record c {
      registers = n.registers;
      stacks_s = secure_after c.run.side n.own c.stacks_s;
      stacks_ns = nonsecure_after c.run.side n.own n.ns;
      masks = record n.masks { s = secure_after c.run.side n.masks.s c.masks.s };
      event = n.event;
    }

-- the banked registers by the low seven bits of their numbers
abbrev pub special_named : ℕ → Option Special
special_named k =
    if k == 8 then Some Msp
    else if k == 9 then Some Psp
    else if k == 10 then Some Msplim
    else if k == 11 then Some Psplim
    else if k == 16 then Some Primask
    else if k == 17 then Some Basepri
    else if k == 18 then Some BasepriMax
    else if k == 19 then Some Faultmask
    else if k == 20 then Some Control
    else if k == 24 then Some Sp
    else None

abbrev pub number_of : Bool → ℕ
number_of flag = if flag then 1 else 0

-- CONTROL: nPRIV in bit 0, SPSEL in bit 1
abbrev pub control_of : Stacks → ℕ
control_of s = number_of s.npriv + 2 ^ control_spsel * number_of s.spsel

-- APSR in a word: N, Z, C, V, Q from bit 31 down
abbrev pub apsr_word : Apsr → ℕ
apsr_word a = 2 ^ apsr_n * number_of a.n + 2 ^ apsr_z * number_of a.z + 2 ^ apsr_c * number_of a.c + 2 ^ apsr_v * number_of a.v + 2 ^ apsr_q * number_of a.q

-- ---- reads

-- a register of a bank
abbrev pub read_bank : ℕ → Stacks → SideMasks → Special → ℕ
read_bank ipsr s m Msp = s.msp
read_bank ipsr s m Psp = s.psp
read_bank ipsr s m Msplim = s.msplim
read_bank ipsr s m Psplim = s.psplim
read_bank ipsr s m Primask = number_of m.primask
read_bank ipsr s m Basepri = m.basepri
read_bank ipsr s m BasepriMax = m.basepri
read_bank ipsr s m Faultmask = number_of m.faultmask
read_bank ipsr s m Control = control_of s
read_bank ipsr s m Sp = pointer_of ipsr s

-- a number that names no register reads zero
abbrev pub read_named : ℕ → Stacks → SideMasks → Option Special → ℕ
read_named ipsr s m None = 0
read_named ipsr s m (Some special) = read_bank ipsr s m special

-- xPSR: with bit 2 clear APSR is in it, with bit 0 set IPSR; EPSR reads zero
abbrev pub read_psr : Registers → ℕ → ℕ
read_psr r sysm = (if sysm / 4 % 2 == 0 then apsr_word r.apsr else 0) + (if sysm % 2 == 1 then r.ipsr else 0)

-- the Non-secure bank, which only Secure code can name
abbrev pub read_ns : Named → ℕ → ℕ
read_ns n sysm = read_side n.side where
  read_side : Side → ℕ
  read_side Secure = read_named n.registers.ipsr n.ns n.masks.ns (special_named (sysm % 128))
  read_side NonSecure = 0

-- (own) unprivileged code reads the parts of xPSR and CONTROL, and all else as zero
abbrev pub special_of : Named → ℕ → ℕ
special_of n sysm =
    if nat_lt sysm 8 then read_psr n.registers sysm
    else if not (is_privileged n.registers.ipsr n.own || sysm == 20) then 0
    else if nat_lt sysm 128 then read_named n.registers.ipsr n.own (masks_of n.side n.masks) (special_named sysm)
    else read_ns n sysm

-- ---- writes

-- FAULTMASK is set only where the execution priority is above -1, and is always cleared
abbrev pub faultmask_after : ℤ → Bool → Bool → Bool
faultmask_after priority old new = if new && not (int_lt (neg_ℤ (pos 1)) priority) then old else new

-- BASEPRI_MAX: only a more urgent priority than BASEPRI, which is none where it is 0
abbrev pub basepri_after : ℕ → ℕ → ℕ
basepri_after old new = if not (new == 0) && (nat_lt new old || old == 0) then new else old

abbrev pub written_stacks : ℕ → Stacks → Special → ℕ → Stacks
written_stacks ipsr s Msp value = record s { msp = word_aligned value }
written_stacks ipsr s Psp value = record s { psp = word_aligned value }
written_stacks ipsr s Msplim value = record s { msplim = value / 8 * 8 }
written_stacks ipsr s Psplim value = record s { psplim = value / 8 * 8 }
written_stacks ipsr s Control value = record s { npriv = value % 2 == 1; spsel = value / 2 ^ control_spsel % 2 == 1 }
written_stacks ipsr s Sp value = with_pointer ipsr s value
written_stacks ipsr s special value = s

abbrev pub written_masks : ℤ → SideMasks → Special → ℕ → SideMasks
written_masks priority m Primask value = record m { primask = value % 2 == 1 }
written_masks priority m Basepri value = record m { basepri = value % 256 }
written_masks priority m BasepriMax value = record m { basepri = basepri_after m.basepri (value % 256) }
written_masks priority m Faultmask value = record m { faultmask = faultmask_after priority m.faultmask (value % 2 == 1) }
written_masks priority m special value = m

-- a bank, that of code's own side or the Non-secure one, with a register written
abbrev pub stacks_written : ℕ → Stacks → Option Special → ℕ → Stacks
stacks_written ipsr s None value = s
stacks_written ipsr s (Some special) value = written_stacks ipsr s special value

abbrev pub masks_written : ℤ → SideMasks → Option Special → ℕ → SideMasks
masks_written priority m None value = m
masks_written priority m (Some special) value = written_masks priority m special value

abbrev pub written_own : Named → ℕ → ℕ → ℤ → Named
written_own n sysm value priority =
    record n {
      own = stacks_written n.registers.ipsr n.own (special_named sysm) value;
      masks = with_masks n.side n.masks (masks_written priority (masks_of n.side n.masks) (special_named sysm) value);
    }

-- the Non-secure bank, which only Secure code can name
abbrev pub written_ns : Named → ℕ → ℕ → ℤ → Named
written_ns n sysm value priority = written_side n.side where
  written_side : Side → Named
  written_side Secure =
      record n {
        ns = stacks_written n.registers.ipsr n.ns (special_named (sysm % 128)) value;
        masks = record n.masks { ns = masks_written priority n.masks.ns (special_named (sysm % 128)) value };
      }
  written_side NonSecure = n

-- a word as flags
abbrev pub apsr_from : ℕ → Apsr
apsr_from value =
    record {
      n = value / 2 ^ apsr_n % 2 == 1;
      z = value / 2 ^ apsr_z % 2 == 1;
      c = value / 2 ^ apsr_c % 2 == 1;
      v = value / 2 ^ apsr_v % 2 == 1;
      q = value / 2 ^ apsr_q % 2 == 1;
    }

-- (own) unprivileged code writes the flags alone
abbrev pub with_special : Named → ℕ → ℕ → ℤ → Named
with_special n sysm value priority =
    if nat_lt sysm 4 then record n { registers = record n.registers { apsr = apsr_from value } }
    else if nat_lt sysm 8 then n
    else if not (is_privileged n.registers.ipsr n.own) then n
    else if nat_lt sysm 128 then written_own n sysm value priority
    else written_ns n sysm value priority

-- SP_NS isn't written below its limit by privileged Secure code
abbrev pub is_below_by : Side → Named → ℕ → Bool
is_below_by Secure n value = is_privileged n.registers.ipsr n.own && nat_lt value (pointer_limit_of n.registers.ipsr n.ns)
is_below_by NonSecure n value = false

abbrev pub is_below_limit : Named → ℕ → ℕ → Bool
is_below_limit n sysm value = if sysm == 0x98 then is_below_by n.side n value else false

-- ---- CPS

-- sets or clears PRIMASK and FAULTMASK of code's own side; FAULTMASK by the priority before
abbrev pub changed_masks : ℤ → Bool → Bool → Bool → SideMasks → SideMasks
changed_masks priority disable i f m =
    record m {
      primask = if i then disable else m.primask;
      faultmask = if f then faultmask_after priority m.faultmask disable else m.faultmask;
    }

abbrev pub changed_state : ℤ → Bool → Bool → Bool → Named → Named
changed_state priority disable i f n =
    record n {
      masks = if is_privileged n.registers.ipsr n.own then with_masks n.side n.masks (changed_masks priority disable i f (masks_of n.side n.masks)) else n.masks;
    }
