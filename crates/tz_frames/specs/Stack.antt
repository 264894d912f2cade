-- Frames on a stack, word by word, over whatever holds them (DDI0553, `PushStack`, `PushCalleeStack`, `PopStack`).
use Rattle.std.specs.Prelude.{ℕ, zero, suc, ◌+◌, ◌-◌, ◌*◌, ◌/◌, ◌%◌, ◌^◌, ◌==◌, nat_lt, Bool, if◌then◌else◌, List, [], ◌∷◌, Option, Some, None, Result, Ok, Err, slice_index}
use Rattle.tz_table.specs.declared.units.Side.{Side}
use Rattle.tz_table.specs.declared.units.Side.TheVariants.{Secure}
use Rattle.tz_model.specs.declared.report.Fault.{Fault}
use Rattle.tz_model.specs.Words.{wrap}
use Rattle.tz_regs.specs.declared.parts.Core.{Core}
use Rattle.tz_regs.specs.declared.parts.Registers.{Registers}
use Rattle.tz_regs.specs.declared.parts.Stacks.{Stacks}
use Rattle.tz_regs.specs.Banks.{stacks_of, with_stacks}
use Rattle.tz_regs.specs.Registers.{is_privileged, uses_process, sp_of}
use Rattle.tz_frames.specs.FrameAccess.{FrameAnswering, FrameLoad, FrameStore}
use Rattle.tz_frames.specs.declared.frame.StackFault.{StackFault}
use Rattle.tz_frames.specs.declared.frame.StackFault.TheVariants.{Limit, Access, Signature}
use Rattle.tz_frames.specs.declared.frame.Basic.{Basic}
use Rattle.tz_frames.specs.declared.frame.Callee.{Callee}
use Rattle.tz_frames.specs.Registers.{retpsr_of}

-- ---- sizes in bytes

abbrev pub basic_frame_size : ℕ
basic_frame_size = 32

abbrev pub additional_frame_size : ℕ
additional_frame_size = 40

-- a basic frame with an additional one below it
abbrev pub both_frames_size : ℕ
both_frames_size = 72

-- ---- stack pointers

-- PSPLIM or MSPLIM
abbrev pub splim_of : Bool → Stacks → ℕ
splim_of process s = if process then s.psplim else s.msplim

abbrev pub with_sp : Bool → ℕ → Stacks → Stacks
with_sp process value s =
    record s { msp = if process then s.msp else value; psp = if process then value else s.psp }

-- the core with PSP or MSP of a side
abbrev pub with_side_sp : Side → Bool → ℕ → Core → Core
with_side_sp side process value c = with_stacks side c (with_sp process value (stacks_of side c))

-- ---- words

-- what is left and the fault of a store, or what the words behind it come to
abbrev pub after_store : {H : Type 0} → H × Result ℕ Fault → (H → H × Option Fault) → H × Option Fault
after_store (h, Ok done) later = later h
after_store (h, Err fault) later = (h, Some fault)

-- words from an address up: those before the first that faults stand
unfoldable pub written : {H : Type 0} → FrameAnswering H → Side → Bool → H → ℕ → List ℕ → H × Option Fault
written answering side privileged h addr [] = (h, None)
written answering side privileged h addr (word ∷ words) =
    after_store (answering h (FrameStore addr side privileged word)) (λ left. written answering side privileged left (wrap (addr + 4)) words)

abbrev pub word_answer : Result ℕ Fault → Result ℕ StackFault
word_answer (Ok word) = Ok word
word_answer (Err fault) = Err (Access fault)

-- a word of a frame; reading changes nothing
abbrev pub word_read : {H : Type 0} → FrameAnswering H → Side → Bool → H → ℕ → Result ℕ StackFault
word_read answering side privileged h addr = word_answer (answering h (FrameLoad addr side privileged)).1

-- a word before those above it
abbrev pub with_lowest_word : Result ℕ StackFault → Result (List ℕ) StackFault → Result (List ℕ) StackFault
with_lowest_word (Err fault) later = Err fault
with_lowest_word (Ok word) (Err fault) = Err fault
with_lowest_word (Ok word) (Ok words) = Ok (word ∷ words)

-- so many words from an address up, or the first fault
unfoldable pub reads : {H : Type 0} → FrameAnswering H → Side → Bool → H → ℕ → ℕ → Result (List ℕ) StackFault
reads answering side privileged h addr zero = Ok []
reads answering side privileged h addr (suc n) = with_lowest_word (word_read answering side privileged h addr) (reads answering side privileged h (wrap (addr + 4)) n)

-- ---- frames that are written

pub record Pushed (H : Type 0) : Type 0 where
  pub core : Core
  pub held : H
  pub fault : Option StackFault

abbrev pub access_fault : Option Fault → Option StackFault
access_fault None = None
access_fault (Some fault) = Some (Access fault)

abbrev pub pushed_with : {H : Type 0} → Core → H × Option Fault → Pushed H
pushed_with c left = record { core = c; held = left.0; fault = access_fault left.1 }

-- a frame at a base: one below the limit isn't written, and leaves the stack pointer at the limit; (own) any other leaves
-- it at the base, whether or not a word of it faults
abbrev pub pushed : {H : Type 0} → FrameAnswering H → Core → H → Side → Bool → Bool → ℕ → List ℕ → Pushed H
pushed answering c h side process privileged base words =
    if nat_lt base (splim_of process (stacks_of side c))
    then record { core = with_side_sp side process (splim_of process (stacks_of side c)) c; held = h; fault = Some (Limit side) }
    else pushed_with (with_side_sp side process base c) (written answering side privileged h base words)

-- a basic frame below, with bit 2 clear
abbrev pub basic_base : ℕ → ℕ
basic_base sp = wrap (sp + (2 ^ 32 - basic_frame_size)) / 8 * 8 + wrap (sp + (2 ^ 32 - basic_frame_size)) % 4

abbrev pub basic_words : Registers → ℕ → ℕ → List ℕ
basic_words r back sp =
    slice_index r.general 0 ∷ slice_index r.general 1 ∷ slice_index r.general 2 ∷ slice_index r.general 3 ∷ slice_index r.general 12 ∷ r.lr ∷ back
    ∷ retpsr_of r sp ∷ []

-- the basic frame of the running code, on its stack, with its privilege
abbrev pub basic_at : {H : Type 0} → FrameAnswering H → Core → H → ℕ → Bool → ℕ → Pushed H
basic_at answering c h back process sp =
    pushed answering c h c.run.side process (is_privileged c.registers.ipsr (stacks_of c.run.side c)) (basic_base sp) (basic_words c.registers back sp)

unfoldable pub pushed_basic : {H : Type 0} → FrameAnswering H → Core → H → ℕ → Pushed H
pushed_basic answering c h back =
    basic_at answering c h back (uses_process c.registers.ipsr (stacks_of c.run.side c))
    (sp_of (uses_process c.registers.ipsr (stacks_of c.run.side c)) (stacks_of c.run.side c))

-- the integrity signature
abbrev pub signature : ℕ
signature = 0xFEFA125B

-- (own) the word above it is zero
abbrev pub callee_words : List ℕ → List ℕ
callee_words general =
    signature ∷ 0 ∷ slice_index general 4 ∷ slice_index general 5 ∷ slice_index general 6 ∷ slice_index general 7 ∷ slice_index general 8
    ∷ slice_index general 9 ∷ slice_index general 10 ∷ slice_index general 11 ∷ []

-- the additional frame, below a Secure stack pointer
unfoldable pub pushed_additional : {H : Type 0} → FrameAnswering H → Core → H → Bool → Bool → Pushed H
pushed_additional answering c h process privileged =
    pushed answering c h Secure process privileged (wrap (sp_of process c.stacks_s + (2 ^ 32 - additional_frame_size))) (callee_words c.registers.general)

-- ---- frames that are read

abbrev pub basic_of : List ℕ → Basic
basic_of words =
    record {
      r0 = slice_index words 0;
      r1 = slice_index words 1;
      r2 = slice_index words 2;
      r3 = slice_index words 3;
      r12 = slice_index words 4;
      lr = slice_index words 5;
      back = slice_index words 6;
      retpsr = slice_index words 7;
    }

abbrev pub basic_read : Result (List ℕ) StackFault → Result Basic StackFault
basic_read (Ok words) = Ok (basic_of words)
basic_read (Err fault) = Err fault

abbrev pub popped_basic : {H : Type 0} → FrameAnswering H → H → ℕ → Side → Bool → Result Basic StackFault
popped_basic answering h sp side privileged = basic_read (reads answering side privileged h sp 8)

-- of the nine words above the signature
abbrev pub callee_of : List ℕ → Callee
callee_of words =
    record {
      r4 = slice_index words 1;
      r5 = slice_index words 2;
      r6 = slice_index words 3;
      r7 = slice_index words 4;
      r8 = slice_index words 5;
      r9 = slice_index words 6;
      r10 = slice_index words 7;
      r11 = slice_index words 8;
    }

abbrev pub callee_read : Result (List ℕ) StackFault → Result Callee StackFault
callee_read (Ok words) = Ok (callee_of words)
callee_read (Err fault) = Err fault

-- the first word is tested, and only behind the signature do the others count
abbrev pub signed : Result ℕ StackFault → Result (List ℕ) StackFault → Result Callee StackFault
signed (Err fault) later = Err fault
signed (Ok word) later = if word == signature then callee_read later else Err Signature

abbrev pub popped_additional : {H : Type 0} → FrameAnswering H → H → ℕ → Bool → Result Callee StackFault
popped_additional answering h sp privileged =
    signed (word_read answering Secure privileged h sp) (reads answering Secure privileged h (wrap (sp + 4)) 9)
