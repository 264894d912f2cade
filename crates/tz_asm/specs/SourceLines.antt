-- The lines of source.
use Rattle.std.specs.Prelude.{ℕ, if◌then◌else◌, List, Option, Some, None, Result, Ok, Err}
use Rattle.tz_asm.specs.Labels.{is_register, label_at}
use Rattle.tz_asm.specs.Statements.{StatementValue, statement_with}
use Rattle.tz_asm.specs.Texts.{EndingValue, line_read}
use Rattle.tz_asm.specs.declared.source.statement.LineError.{LineError}
use Rattle.tz_asm.specs.declared.source.statement.LineError.TheVariants.{Token, Operands}
use Rattle.tz_syntax.specs.Tokens.{TokenValue}

-- the label that a line defines, and its statement
pub record LineValue : Type 0 where
  pub label : Option (List ℕ)
  pub statement : StatementValue

-- a line without a label
abbrev pub unlabelled : Result StatementValue LineError → Result LineValue LineError
unlabelled (Err cause) = Err cause
unlabelled (Ok statement) = Ok (record { label = None; statement = statement })

-- a line with a label, which can't be the name of a register
abbrev pub labelled : List ℕ → Result StatementValue LineError → Result LineValue LineError
labelled name (Err cause) = Err cause
labelled name (Ok statement) =
    if is_register name then Err Operands else Ok (record { label = Some name; statement = statement })

-- a line of tokens that may have a label
abbrev pub line_with : Option (List ℕ × List TokenValue) → List TokenValue → EndingValue → Result LineValue LineError
line_with None tokens ending = unlabelled (statement_with tokens ending)
line_with (Some at) tokens ending = labelled at.0 (statement_with at.1 ending)

-- what a line of tokens and its ending say, or the first cause to refuse it
unfoldable pub line_of : List TokenValue → EndingValue → Result LineValue LineError
line_of tokens ending = line_with (label_at tokens) tokens ending

-- the same where there may be no tokens
abbrev pub tokens_said : Option (List TokenValue × EndingValue) → Result LineValue LineError
tokens_said None = Err Token
tokens_said (Some read) = line_of read.0 read.1

-- what a line says, whatever its comment is
unfoldable pub source_line : List ℕ → Result LineValue LineError
source_line line = tokens_said (line_read line)
