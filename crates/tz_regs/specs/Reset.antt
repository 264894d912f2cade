-- The core after a reset (DDI0553, `TakeReset`).
use Rattle.std.specs.Prelude.{ℕ, ◌%◌, ◌==◌, Bool, false, replicate}
use Rattle.tz_table.specs.declared.units.Side.TheVariants.{Secure}
use Rattle.tz_model.specs.declared.channel.Channel.{Channel}
use Rattle.tz_model.specs.declared.report.Sleep.TheVariants.{Awake}
use Rattle.tz_model.specs.Words.{even_of}
use Rattle.tz_regs.specs.declared.parts.Core.{Core}
use Rattle.tz_regs.specs.declared.parts.Stacks.{Stacks}
use Rattle.tz_regs.specs.declared.parts.SideMasks.{SideMasks}
use Rattle.tz_regs.specs.declared.parts.SideStatus.{SideStatus}
use Rattle.tz_regs.specs.Registers.{word_aligned}

abbrev pub reset_stacks : ℕ → Stacks
reset_stacks msp = record { msp = word_aligned msp; psp = 0; msplim = 0; psplim = 0; npriv = false; spsel = false }

abbrev pub no_masks : SideMasks
no_masks = record { primask = false; basepri = 0; faultmask = false }

-- a channel that doesn't go, whose registers are zero
abbrev pub no_channel : Channel
no_channel = record { src = 0; dst = 0; count = 0; ctrl = 0 }

abbrev pub reset_status : ℕ → SideStatus
reset_status vtor = record { vtor = vtor; ccr = 0; ufsr = 0; mmfsr = 0; mmfar = 0; channel = no_channel }

-- (own) with these vector tables, stack pointer and start; R0 to R12 and the flags, which a reset leaves
-- UNKNOWN, are zero
abbrev pub reset_core : ℕ → ℕ → ℕ → ℕ → Bool → Core
reset_core vtor_s vtor_ns sp start locked =
    record {
      run = record { side = Secure; locked = locked; sleep = Awake };
      registers = record {
        general = replicate 13 0;
        lr = 0xFFFFFFFF;
        pc = even_of start;
        apsr = record { n = false; z = false; c = false; v = false; q = false };
        it = 0;
        t = start % 2 == 1;
        ipsr = 0;
      };
      stacks_s = reset_stacks sp;
      stacks_ns = reset_stacks 0;
      masks = record { s = no_masks; ns = no_masks };
      event = false;
      status = record {
        s = reset_status vtor_s;
        ns = reset_status vtor_ns;
        security = record { sfsr = 0; sfar = 0 };
        bus = record { bfsr = 0; bfar = 0; hfsr = 0 };
      };
    }
