-- The head of a page, the registers, and both sides' stacks.
use Rattle.std.specs.Prelude.{ℕ, ◌%◌, ◌==◌, nat_lt, if◌then◌else◌, List, [], ◌++◌, codes, decimal, slice_index}
use Rattle.std.specs.Fmt.{signed_decimal}
use Rattle.tz_table.specs.declared.units.Side.{Side}
use Rattle.tz_table.specs.declared.units.Side.TheVariants.{Secure, NonSecure}
use Rattle.tz_model.specs.declared.report.Sleep.{Sleep}
use Rattle.tz_model.specs.declared.report.Sleep.TheVariants.{Awake, Wfi, Wfe}
use Rattle.tz_regs.specs.declared.parts.Core.{Core}
use Rattle.tz_regs.specs.declared.parts.Registers.{Registers}
use Rattle.tz_regs.specs.declared.parts.Stacks.{Stacks}
use Rattle.tz_regs.specs.Banks.{stacks_of}
use Rattle.tz_regs.specs.Registers.{is_handler, is_privileged, sp_in}
use Rattle.tz_regs.specs.Special.{number_of, control_of, apsr_word}
use Rattle.tz_state.specs.Slots.{ExceptionsValue}
use Rattle.tz_state.specs.Execution.{execution, manual_priority}
use Rattle.tz_syntax.specs.Digits.{hex_word}
use Rattle.tz_show.specs.declared.bits.BitNames.TheVariants.{Apsr, Control}
use Rattle.tz_show.specs.Rows.{cell, pair_row, row, where_so, texts_below}

-- ---- the head

unfoldable pub side_words : Side → List ℕ
side_words Secure = codes "Secure"
side_words NonSecure = codes "Non-secure"

unfoldable pub mode_words : Core → List ℕ
mode_words c = if is_handler c.registers.ipsr then codes ", Handler mode" else codes ", Thread mode"

unfoldable pub privilege_words : Core → List ℕ
privilege_words c = if is_privileged c.registers.ipsr (stacks_of c.run.side c) then codes ", privileged" else codes ", unprivileged"

unfoldable pub sleep_words : Sleep → List ℕ
sleep_words Awake = []
sleep_words Wfi = codes ", asleep by WFI"
sleep_words Wfe = codes ", asleep by WFE"

-- whose code runs, and how; a locked core keeps the side
unfoldable pub running_text : Core → List ℕ
running_text c =
    codes "  " ++ side_words c.run.side ++ mode_words c ++ privilege_words c ++ where_so c.run.locked (codes ", locked up")
    ++ sleep_words c.run.sleep ++ where_so c.event (codes ", event flag set") ++ codes "\n"

unfoldable pub priority_text : ExceptionsValue → Core → List ℕ
priority_text e c = codes "  Execution priority " ++ signed_decimal (manual_priority (execution e c.masks)) ++ codes "\n"

-- how many steps were made, how the core runs, and the execution priority
unfoldable pub head_text : ExceptionsValue → Core → ℕ → List ℕ
head_text e c step = codes "State after " ++ decimal step ++ codes " steps\n" ++ running_text c ++ priority_text e c

-- ---- registers

-- a register of R0 to R12, four a line
unfoldable pub general_text : List ℕ → ℕ → List ℕ
general_text general k =
    where_so (k % 4 == 0) (codes "\n") ++ codes "  R" ++ decimal k ++ (if nat_lt k 10 then codes "   " else codes "  ")
    ++ hex_word (slice_index general k)

-- SP in use, LR and PC end the last of these lines
unfoldable pub pointers_text : Core → List ℕ
pointers_text c = cell (codes "  SP   ") (sp_in c) ++ cell (codes "  LR   ") c.registers.lr ++ cell (codes "  PC   ") c.registers.pc ++ codes "\n"

unfoldable pub status_text : Registers → List ℕ
status_text r =
    row (codes "  APSR ") (apsr_word r.apsr) Apsr ++ cell (codes "  IPSR ") r.ipsr ++ cell (codes "  EPSR.IT ") r.it
    ++ cell (codes "  EPSR.T ") (number_of r.t) ++ codes "\n"

unfoldable pub registers_text : Core → List ℕ
registers_text c = codes "\nRegisters" ++ texts_below (general_text c.registers.general) 13 ++ pointers_text c ++ status_text c.registers

-- ---- stacks

-- the stack pointers and the limits of the Secure and the Non-secure side
unfoldable pub pointer_pairs : Stacks → Stacks → List ℕ
pointer_pairs s ns =
    pair_row (codes "  MSP_S      ") s.msp (codes "  MSP_NS     ") ns.msp
    ++ pair_row (codes "  MSPLIM_S   ") s.msplim (codes "  MSPLIM_NS  ") ns.msplim
    ++ pair_row (codes "  PSP_S      ") s.psp (codes "  PSP_NS     ") ns.psp
    ++ pair_row (codes "  PSPLIM_S   ") s.psplim (codes "  PSPLIM_NS  ") ns.psplim

unfoldable pub control_row : List ℕ → Stacks → List ℕ
control_row head s = row head (control_of s) Control

unfoldable pub stacks_text : Core → List ℕ
stacks_text c = codes "\nStacks\n" ++ pointer_pairs c.stacks_s c.stacks_ns ++ control_row (codes "  CONTROL_S  ") c.stacks_s
    ++ control_row (codes "  CONTROL_NS ") c.stacks_ns
