-- The statements of source.
use Rattle.std.specs.Prelude.{ℕ, ◌==◌, Bool, true, false, ◌&&◌, if◌then◌else◌, List, [], ◌∷◌, codes, Option, Some, None, option_map, ok_or, Result, Ok, Err}
use Rattle.std.specs.Str.{bytes_eq}
use Rattle.tz_asm.specs.Operands.{ExpressionValue, alignment, expression_of, number_of, unsigned}
use Rattle.tz_asm.specs.declared.source.directive.Directive.{Directive}
use Rattle.tz_asm.specs.declared.source.directive.Directive.TheVariants as directives
use Rattle.tz_asm.specs.declared.source.number.Signed.{Signed}
use Rattle.tz_asm.specs.declared.source.statement.LineError.{LineError}
use Rattle.tz_asm.specs.declared.source.statement.LineError.TheVariants.{Mnemonic, Operands, Token}
use Rattle.tz_asm.specs.Coded.{shaped}
use Rattle.tz_asm.specs.CodedOperands.{is_label}
use Rattle.tz_asm.specs.Mnemonics.{width_of_word}
use Rattle.tz_asm.specs.Texts.{EndingValue}
use Rattle.tz_asm.specs.Texts as endings
use Rattle.tz_table.specs.declared.units.Size.{Size}
use Rattle.tz_table.specs.declared.units.Size.TheVariants.{Byte, Half, Word}
use Rattle.tz_table.specs.declared.units.Width.{Width}
use Rattle.tz_syntax.specs.Tokens.{TokenValue}
use Rattle.tz_syntax.specs.Tokens as tokens

-- no statement, a directive, or an instruction with its width, its mnemonic and its operands. A text has a zero byte
-- behind it where it ends with one
pub data StatementValue : Type 0 where
  Nothing : StatementValue
  Org : (place : Signed) → StatementValue
  Align : (multiple : ℕ) → StatementValue
  Data : (size : Size) (value : ExpressionValue) → StatementValue
  Equ : (name : List ℕ) (value : ExpressionValue) → StatementValue
  Space : (count : ℕ) → StatementValue
  Text : (bytes : List ℕ) (ends : Bool) → StatementValue
  Instruction : (width : Width) (mnemonic : List ℕ) (operands : List TokenValue) → StatementValue

-- the directive that a word is
unfoldable pub directive_of : List ℕ → Option Directive
directive_of word =
    if bytes_eq word (codes ".org") then Some directives.Org
    else if bytes_eq word (codes ".align") then Some directives.Align
    else if bytes_eq word (codes ".byte") then Some (directives.Data Byte)
    else if bytes_eq word (codes ".half") then Some (directives.Data Half)
    else if bytes_eq word (codes ".word") then Some (directives.Data Word)
    else if bytes_eq word (codes ".equ") then Some directives.Equ
    else if bytes_eq word (codes ".space") then Some directives.Space
    else if bytes_eq word (codes ".ascii") then Some (directives.Text false)
    else if bytes_eq word (codes ".asciz") then Some (directives.Text true)
    else None

-- a name, a `,` (44) and a value
unfoldable pub equated : List TokenValue → Option StatementValue
equated (tokens.Word name ∷ tokens.Mark mark ∷ value) =
    if is_label name && mark == 44 then option_map (Equ name) (expression_of value) else None
equated _ = None

-- what a directive says with its operands; a text is no token
unfoldable pub directed : Directive → List TokenValue → Option StatementValue
directed directives.Org operands = option_map Org (number_of operands)
directed directives.Align operands = option_map Align (alignment (number_of operands))
directed (directives.Data size) operands = option_map (Data size) (expression_of operands)
directed directives.Equ operands = equated operands
directed directives.Space operands = option_map Space (unsigned (number_of operands))
directed (directives.Text ends) operands = None

-- an instruction, where its mnemonic has a width
abbrev pub with_width : Option Width → List ℕ → List TokenValue → Result StatementValue LineError
with_width None mnemonic operands = Err Mnemonic
with_width (Some width) mnemonic operands =
    if shaped mnemonic operands then Ok (Instruction width mnemonic operands) else Err Operands

-- an instruction, whose operands have the shape of a text of its mnemonic
unfoldable pub instructed : List ℕ → List TokenValue → Result StatementValue LineError
instructed mnemonic operands = with_width (width_of_word mnemonic) mnemonic operands

-- the statement of a word that may be a directive
abbrev pub worded_by : Option Directive → List ℕ → List TokenValue → Result StatementValue LineError
worded_by (Some directive) word operands = ok_or (directed directive operands) Operands
worded_by None word operands = instructed word operands

-- the statement that begins with a word
unfoldable pub worded : List ℕ → List TokenValue → Result StatementValue LineError
worded word operands = worded_by (directive_of word) word operands

-- the statement that tokens are
unfoldable pub statement_of : List TokenValue → Result StatementValue LineError
statement_of [] = Ok Nothing
statement_of (tokens.Word word ∷ operands) = worded word operands
statement_of _ = Err Mnemonic

-- what a directive says with operands and a text behind them, if no more stands behind that
abbrev pub with_text : Directive → List TokenValue → Option (List ℕ) → Option StatementValue
with_text (directives.Text ends) [] text = option_map (λ bytes. Text bytes ends) text
with_text _ operands text = None

-- the statement of a word that may be a directive, with a text among its operands: `.ascii` and `.asciz` alone have
-- texts, and to all other words a `"` is a character that no token has
abbrev pub texted_by : Option Directive → List TokenValue → Option (List ℕ) → Result StatementValue LineError
texted_by (Some (directives.Text ends)) operands text = ok_or (with_text (directives.Text ends) operands text) Operands
texted_by _ operands text = Err Token

-- the statement that tokens and a text are
unfoldable pub texted : List TokenValue → Option (List ℕ) → Result StatementValue LineError
texted [] text = Err Token
texted (tokens.Word word ∷ operands) text = texted_by (directive_of word) operands text
texted _ text = Err Token

-- the statement that tokens are, with what the line ends with
abbrev pub statement_with : List TokenValue → EndingValue → Result StatementValue LineError
statement_with tokens endings.Tokens = statement_of tokens
statement_with tokens (endings.Text bytes) = texted tokens (Some bytes)
statement_with tokens endings.More = texted tokens None
