-- Lines with their numbers.
use Rattle.std.specs.Prelude.{ℕ, List, Result, Ok, Err}
use Rattle.tz_asm.specs.Refusals.{Refusal, Token, Mnemonic, Operands}
use Rattle.tz_asm.specs.SourceLines.{LineValue, source_line}
use Rattle.tz_asm.specs.declared.source.statement.LineError.{LineError}
use Rattle.tz_asm.specs.declared.source.statement.LineError.TheVariants as causes

-- why a line is refused
abbrev pub refused_at : ℕ → LineError → Refusal
refused_at line causes.Token = Token line
refused_at line causes.Mnemonic = Mnemonic line
refused_at line causes.Operands = Operands line

abbrev pub at_line : ℕ → Result LineValue LineError → Result LineValue Refusal
at_line line (Ok value) = Ok value
at_line line (Err cause) = Err (refused_at line cause)

-- what a line says, or why it is refused
unfoldable pub said : ℕ → List ℕ → Result LineValue Refusal
said line text = at_line line (source_line text)
