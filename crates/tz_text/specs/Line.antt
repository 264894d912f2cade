-- The line of a step in the trace.
use Rattle.std.specs.Prelude.{ℕ, ◌==◌, Bool, ◌||◌, not, if◌then◌else◌, List, [], ◌∷◌, ◌++◌, codes, decimal}
use Rattle.tz_table.specs.declared.units.Side.{Side}
use Rattle.tz_table.specs.declared.units.Side.TheVariants.{Secure, NonSecure}
use Rattle.tz_table.specs.declared.units.Size.{Size}
use Rattle.tz_table.specs.declared.units.Size.TheVariants.{Byte, Half, Word}
use Rattle.tz_model.specs.declared.report.StepKind.{StepKind}
use Rattle.tz_model.specs.declared.report.StepKind.TheVariants.{Locked, Idle, Taken, Ran}
use Rattle.tz_model.specs.declared.report.Change.{Change}
use Rattle.tz_model.specs.declared.report.Store as stored
use Rattle.tz_model.specs.declared.report.Report.{Report}
use Rattle.tz_model.specs.declared.report.View.{View}
use Rattle.tz_model.specs.declared.report.View.TheVariants.{Ns, All}
use Rattle.tz_model.specs.Words.{is_nonsecure_side}
use Rattle.tz_syntax.specs.Digits.{hex_word}
use Rattle.tz_syntax.specs.Names.{register_text}
use Rattle.tz_model.specs.Codes.{meaning_of}
use Rattle.tz_text.specs.Instruction.{code_text, meaning_text}

-- r0 to r12, sp, lr and apsr
abbrev pub change_name : ℕ → List ℕ
change_name k = if k == 15 then codes "apsr" else register_text k

unfoldable pub changes_text : List Change → List ℕ
changes_text [] = []
changes_text (c ∷ cs) = codes " " ++ change_name c.name ++ codes "=" ++ hex_word c.value ++ changes_text cs

abbrev pub size_text : Size → List ℕ
size_text Byte = codes "].1="
size_text Half = codes "].2="
size_text Word = codes "].4="

unfoldable pub stores_text : List stored.Store → List ℕ
stores_text [] = []
stores_text (s ∷ ss) = codes " [" ++ hex_word s.addr ++ size_text s.size ++ hex_word s.value ++ stores_text ss

-- what a step was, with the registers that differ and the stores
abbrev pub kind_text : StepKind → List Change → List stored.Store → List ℕ
kind_text Locked changes stores = codes "L"
kind_text Idle changes stores = codes "Z"
kind_text (Taken number lr) changes stores = codes "X " ++ decimal number ++ codes " " ++ hex_word lr
kind_text (Ran pc code) changes stores =
    codes "N " ++ hex_word pc ++ codes " " ++ code_text code ++ codes " " ++ meaning_text pc code (meaning_of code) ++ changes_text changes ++ stores_text stores

abbrev pub report_text : Report → List ℕ
report_text r = kind_text r.kind r.changes.items r.stores.items

-- Non-secure code sees nothing of a step that looked at Secure state or ends in it
abbrev pub is_hidden : Report → Bool
is_hidden r = r.touched || not (is_nonsecure_side r.end)

abbrev pub start_text : Side → List ℕ
start_text Secure = codes "s "
start_text NonSecure = codes "n "

-- a line after its number: what Non-secure code sees, or all
abbrev pub body : View → Report → List ℕ
body Ns r = if is_hidden r then codes "S" else report_text r
body All r = start_text r.start ++ report_text r

-- the line of a step, with its line feed
unfoldable pub line : View → ℕ → Report → List ℕ
line view k r = decimal k ++ codes " " ++ body view r ++ codes "\n"
