-- The way out of Secure state, and what Secure code hands over by it.
use Rattle.std.specs.Prelude.{ℕ, List, [], ◌++◌, codes, decimal, Option, Some, None}
use Rattle.tz_model.specs.declared.report.CrossKind.{CrossKind}
use Rattle.tz_model.specs.declared.report.CrossKind.TheVariants.{Return, Call, ExcReturn, Chain, Preempt, Refused}
use Rattle.tz_model.specs.declared.report.Way.{Way}
use Rattle.tz_regs.specs.declared.parts.Registers.{Registers}
use Rattle.tz_regs.specs.Special.{apsr_word, number_of}
use Rattle.tz_syntax.specs.Digits.{hex_byte, hex_word}
use Rattle.tz_twin.specs.Seen.{Handed, Nothing, Saved, Whole, handed_by}
use Rattle.tz_full.specs.Words.{register_is, registers_text}

-- the word of a kind of crossing
abbrev pub kind_word : CrossKind → List ℕ
kind_word Return = codes "return"
kind_word Call = codes "call"
kind_word ExcReturn = codes "excreturn"
kind_word Chain = codes "chain"
kind_word Preempt = codes "preempt"
kind_word Refused = codes "refused"

-- the flags, the IT state and T, and where code goes on
unfoldable pub flags_text : Registers → List ℕ
flags_text r =
    codes " flags=" ++ hex_word (apsr_word r.apsr) ++ codes " it=" ++ hex_byte r.it ++ codes " t=" ++ decimal (number_of r.t)
    ++ codes " pc=" ++ hex_word r.pc

unfoldable pub all_text : Registers → List ℕ
all_text r = registers_text 0 r.general ++ register_is 14 r.lr ++ flags_text r

unfoldable pub called_with_text : Registers → List ℕ
called_with_text r = registers_text 0 r.general ++ flags_text r

-- LR of a call is FNC_RETURN, whatever Secure code had there, and isn't shown
abbrev pub whole_text : CrossKind → Registers → List ℕ
whole_text Call r = called_with_text r
whole_text kind r = all_text r

-- what a crossing of a kind hands over
abbrev pub handed_text : CrossKind → Handed → List ℕ
handed_text kind Nothing = codes " nothing"
handed_text kind (Saved r4_to_r11) = registers_text 4 r4_to_r11
handed_text kind (Whole r) = whole_text kind r

unfoldable pub way_text : Way → Registers → List ℕ
way_text way r = codes "    crossing " ++ kind_word way.kind ++ codes ", hands over" ++ handed_text way.kind (handed_by way.kind r) ++ codes "\n"

abbrev pub crossing_text : Option Way → Registers → List ℕ
crossing_text None r = []
crossing_text (Some way) r = way_text way r
