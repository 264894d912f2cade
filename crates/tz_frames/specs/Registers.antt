-- What the registers become where an exception is taken, and what of them a frame holds (DDI0553,
-- `ExceptionTaken`, `PopStack`).
use Rattle.std.specs.Prelude.{ℕ, ◌+◌, ◌*◌, ◌/◌, ◌%◌, ◌^◌, ◌==◌, Bool, true, false, if◌then◌else◌, List, [], ◌∷◌, Option, Some, None, slice_index, replicate}
use Rattle.tz_table.specs.declared.units.Side.{Side}
use Rattle.tz_table.specs.declared.units.Side.TheVariants.{Secure, NonSecure}
use Rattle.tz_model.specs.declared.board.Profile.{Profile}
use Rattle.tz_model.specs.declared.board.Profile.TheVariants.{V80, V81}
use Rattle.tz_model.specs.Words.{even_of}
use Rattle.tz_regs.specs.declared.parts.Apsr.{Apsr}
use Rattle.tz_regs.specs.declared.parts.Registers.{Registers}
use Rattle.tz_regs.specs.Special.{number_of, apsr_word, apsr_from}
use Rattle.tz_frames.specs.ReturnBits.{retpsr_sprealign, retpsr_it_high, retpsr_t, retpsr_it_low}
use Rattle.tz_frames.specs.declared.frame.Basic.{Basic}
use Rattle.tz_frames.specs.declared.frame.Callee.{Callee}

-- ---- where an exception is taken

abbrev pub no_flags : Apsr
no_flags = record { n = false; z = false; c = false; v = false; q = false }

-- what R4 to R11 are of R0 to R12
abbrev pub saved_of : List ℕ → List ℕ
saved_of general =
    slice_index general 4 ∷ slice_index general 5 ∷ slice_index general 6 ∷ slice_index general 7 ∷ slice_index general 8
    ∷ slice_index general 9 ∷ slice_index general 10 ∷ slice_index general 11 ∷ []

-- R0 to R3, R12 and the flags zero, and R4 to R11 as they were
abbrev pub scratch_cleared : Registers → Registers
scratch_cleared r =
    record r {
      general = 0 ∷ 0 ∷ 0 ∷ 0 ∷ slice_index r.general 4 ∷ slice_index r.general 5 ∷ slice_index r.general 6 ∷ slice_index r.general 7 ∷ slice_index r.general 8
          ∷ slice_index r.general 9 ∷ slice_index r.general 10 ∷ slice_index r.general 11 ∷ 0 ∷ [];
      apsr = no_flags;
    }

-- R0 to R12 and the flags zero
abbrev pub all_cleared : Registers → Registers
all_cleared r = record r { general = replicate 13 0; apsr = no_flags }

-- (own) a Secure exception leaves them on version 8.0, where the manual leaves them UNKNOWN
abbrev pub secure_registers : Profile → Registers → Registers
secure_registers V80 r = r
secure_registers V81 r = scratch_cleared r

-- those of the code that an exception of a side interrupts, which is Secure or not
abbrev pub taken_registers : Profile → Side → Bool → Registers → Registers
taken_registers profile Secure secure r = secure_registers profile r
taken_registers profile NonSecure secure r = if secure then all_cleared r else scratch_cleared r

-- ---- in a frame

-- xPSR: the flags, IT 1:0 in bits 26:25, T in bit 24, IT 7:2 in bits 15:10, and IPSR
abbrev pub psr_word : Registers → ℕ
psr_word r = apsr_word r.apsr + 2 ^ retpsr_it_low * (r.it % 4) + 2 ^ retpsr_t * number_of r.t + 2 ^ retpsr_it_high * (r.it / 4) + r.ipsr

-- with bit 2 of the stack pointer in SPREALIGN
abbrev pub retpsr_of : Registers → ℕ → ℕ
retpsr_of r sp = psr_word r + 2 ^ retpsr_sprealign * (sp / 4 % 2)

-- the number in it
abbrev pub number_in : ℕ → ℕ
number_in retpsr = retpsr % 2 ^ 9

-- R0 to R12 of what was unstacked; R4 to R11 stay where no additional frame was
abbrev pub general_of : List ℕ → Option Callee → Basic → List ℕ
general_of old None b =
    b.r0 ∷ b.r1 ∷ b.r2 ∷ b.r3 ∷ slice_index old 4 ∷ slice_index old 5 ∷ slice_index old 6 ∷ slice_index old 7 ∷ slice_index old 8 ∷ slice_index old 9
    ∷ slice_index old 10 ∷ slice_index old 11 ∷ b.r12 ∷ []
general_of old (Some k) b = b.r0 ∷ b.r1 ∷ b.r2 ∷ b.r3 ∷ k.r4 ∷ k.r5 ∷ k.r6 ∷ k.r7 ∷ k.r8 ∷ k.r9 ∷ k.r10 ∷ k.r11 ∷ b.r12 ∷ []

-- the registers of the code that goes on
abbrev pub resumed_registers : Registers → Option Callee → Basic → Registers
resumed_registers r callee b =
    record {
      general = general_of r.general callee b;
      lr = b.lr;
      pc = even_of b.back;
      apsr = apsr_from b.retpsr;
      it = b.retpsr / 2 ^ retpsr_it_low % 4 + 4 * (b.retpsr / 2 ^ retpsr_it_high % 64);
      t = b.retpsr / 2 ^ retpsr_t % 2 == 1;
      ipsr = number_in b.retpsr;
    }
