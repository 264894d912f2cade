-- Lines as they are read.
use Rattle.std.specs.Prelude.{ℕ, List, map, option_map}
use Rattle.tz_asm.specs.Operands.{ExpressionValue, Constant}
use Rattle.tz_asm.specs.Operands as values
use Rattle.tz_asm.specs.SourceLines.{LineValue}
use Rattle.tz_asm.specs.Statements.{StatementValue}
use Rattle.tz_asm.specs.Statements as statements
use Rattle.tz_asm.specs.declared.source.source_line.SourceLine.{SourceLine}
use Rattle.tz_asm.specs.declared.source.statement.Expression.{Expression}
use Rattle.tz_asm.specs.declared.source.statement.Expression.TheVariants.{Number, Label}
use Rattle.tz_asm.specs.declared.source.statement.Statement.{Statement}
use Rattle.tz_asm.specs.declared.source.statement.Statement.TheVariants.{Nothing, Org, Align, Data, Equ, Space, Text, Instruction}
use Rattle.tz_asm.specs.declared.source.statement.Ending.{Ending}
use Rattle.tz_asm.specs.declared.source.statement.Ending.TheVariants as ending
use Rattle.tz_asm.specs.declared.reading.EndingKind.{EndingKind}
use Rattle.tz_asm.specs.declared.reading.EndingKind.TheVariants as found
use Rattle.tz_asm.specs.Texts.{EndingValue}
use Rattle.tz_asm.specs.Texts as endings
use Rattle.tz_syntax.specs.Tokens.{TokenValue}
use Rattle.tz_syntax.specs.Views.{token_view}
use Rattle.tz_syntax.specs.declared.token.Token.{Token}

abbrev pub views : List Token → List TokenValue
views tokens = map token_view tokens

-- the value that was read
abbrev pub expression_view : Expression → ExpressionValue
expression_view (Number number) = Constant number
expression_view (Label name offset) = values.Label name.now offset

-- the statement that was read
abbrev pub statement_view : Statement → StatementValue
statement_view Nothing = statements.Nothing
statement_view (Org place) = statements.Org place
statement_view (Align multiple) = statements.Align multiple
statement_view (Data size value) = statements.Data size (expression_view value)
statement_view (Equ name value) = statements.Equ name.now (expression_view value)
statement_view (Space count) = statements.Space count
statement_view (Text bytes ends) = statements.Text bytes.now ends
statement_view (Instruction width mnemonic operands) = statements.Instruction width mnemonic.now (views operands.now)

-- what the line ends with, of which the text's bytes are these
abbrev pub found_view : EndingKind → List ℕ → EndingValue
found_view found.Tokens bytes = endings.Tokens
found_view found.Text bytes = endings.Text bytes
found_view found.More bytes = endings.More

abbrev pub ending_view : Ending → EndingValue
ending_view ending.Tokens = endings.Tokens
ending_view (ending.Text bytes) = endings.Text bytes.now
ending_view ending.More = endings.More

-- the line that was read
abbrev pub line_view : SourceLine → LineValue
line_view l = record { label = option_map (λ name. name.now) l.label; statement = statement_view l.statement }
