-- The instruction that a step did, the registers that its loads fill, and the core from which it returns.
use Rattle.std.specs.Prelude.{ℕ, if◌then◌else◌, List, [], ◌∷◌, ◌++◌, Option, Some, None}
use Rattle.tz_table.specs.declared.decoded.Decoded.{Decoded}
use Rattle.tz_table.specs.declared.decoded.Decoded.TheVariants.{One}
use Rattle.tz_table.specs.declared.instruction.Insn.{Insn}
use Rattle.tz_table.specs.declared.instruction.Insn.TheVariants.{Load, LoadPair, LoadMany, LoadExclusive, LoadAcquire}
use Rattle.tz_model.specs.declared.report.Report.{Report}
use Rattle.tz_model.specs.declared.report.StepKind.{StepKind}
use Rattle.tz_model.specs.declared.report.StepKind.TheVariants.{Ran}
use Rattle.tz_model.specs.Codes.{meaning_of}
use Rattle.tz_regs.specs.declared.parts.Core.{Core}
use Rattle.tz_sem.specs.ItRules.{is_passed_over}
use Rattle.tz_sem.specs.LoadStore.{based, based_past, is_listed, listed, past_words, words_loaded}
use Rattle.tz_sem.specs.Local.{Local, local_of, reg, with_local}
use Rattle.tz_sem.specs.declared.account.Account.{Account}

-- ---- the instruction

-- one that its IT block skips does nothing; those that the condition doesn't hold back fault
abbrev pub unskipped : Core → Insn → Option Insn
unskipped c i = if is_passed_over c.registers then None else Some i

abbrev pub meant : Core → Decoded → Option Insn
meant c (One i width) = unskipped c i
meant c refused = None

abbrev pub done_by : Core → StepKind → Option Insn
done_by c (Ran pc code) = meant c (meaning_of code)
done_by c kind = None

-- ---- the registers that it fills

-- the registers that its loads fill, in order; PC is the last of a list
abbrev pub filled_by : Insn → List ℕ
filled_by (Load size signed rt address user) = rt ∷ []
filled_by (LoadPair rt rt2 address) = rt ∷ rt2 ∷ []
filled_by (LoadMany rn list down back) = listed list ++ (if is_listed list 15 then 15 ∷ [] else [])
filled_by (LoadExclusive size acquire rt rn offset) = rt ∷ []
filled_by (LoadAcquire size rt rn) = rt ∷ []
filled_by i = []

-- ---- the core from which code returns

-- the stack pointer is past the words that a load of PC popped
abbrev pub popped : Insn → Local → Local
popped (Load size signed rt address user) l = based address l
popped (LoadMany rn list down back) l = based_past back rn (past_words down (reg l rn) (words_loaded list)) l
popped i l = l

abbrev pub popped_by : Core → Option Insn → Core
popped_by c None = c
popped_by c (Some i) = with_local c (popped i (local_of c))

unfoldable pub returning_core : Account → Report → Core
returning_core t r = popped_by t.core (done_by t.core r.kind)
