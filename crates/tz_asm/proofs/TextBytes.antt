-- What a line's text gives are bytes.
use Rattle.std.proofs.Common.{◌≡◌, ◌<◌, ◌==◌, ◌&&◌, ℕ, zero, suc, Bool, true, false, nat_le, List, [], ◌∷◌, Option, Some, None, Result, Ok, Err, option_map, arith, refl, subst}
use Rattle.std.specs.Prelude.{if◌then◌else◌, ok_or, slice_index}
use Rattle.std.proofs.lemmas.Bool.{and_parts, leb-true}
use Rattle.tz_asm.specs.CodedOperands.{is_label}
use Rattle.tz_asm.specs.Coded.{shaped}
use Rattle.tz_asm.specs.Labels.{is_register, label_at}
use Rattle.tz_asm.specs.Mnemonics.{width_of_word}
use Rattle.tz_asm.specs.Operands.{ExpressionValue, alignment, expression_of, number_of, unsigned}
use Rattle.tz_asm.specs.Reading.{at_line, said}
use Rattle.tz_asm.specs.SourceLines.{LineValue, labelled, line_of, line_with, source_line, tokens_said, unlabelled}
use Rattle.tz_asm.specs.Statements.{StatementValue, Org, Align, Data, Equ, Space, Text, Instruction, directed, directive_of, equated, instructed, statement_of, statement_with, texted, texted_by, with_text, with_width, worded, worded_by}
use Rattle.tz_asm.specs.Texts.{EndingValue, after_turn, both, ended, ended_by, ending_of, escaped_turn, line_read, onto_read, plain_turn, quoted_at, read_by, text_from, turn_of}
use Rattle.tz_asm.specs.Texts as endings
use Rattle.tz_asm.specs.declared.source.directive.Directive.{Directive}
use Rattle.tz_asm.specs.declared.source.directive.Directive.TheVariants as directives
use Rattle.tz_asm.specs.declared.source.number.Signed.{Signed}
use Rattle.tz_asm.specs.declared.source.statement.LineError.{LineError}
use Rattle.tz_asm.specs.declared.source.statement.LineError.TheVariants.{Mnemonic, Operands}
use Rattle.tz_asm.specs.declared.source.text.Turn.{Turn}
use Rattle.tz_asm.specs.declared.source.text.Turn.TheVariants.{Ends, Escapes, Puts, Fails}
use Rattle.tz_syntax.specs.Tokens.{TokenValue, tokens_of, without_comment}
use Rattle.tz_syntax.specs.Tokens as tokens
use Rattle.tz_table.specs.declared.units.Size.{Size}
use Rattle.tz_table.specs.declared.units.Width.{Width}

abbrev pub AreBytes : List ℕ → Type 0
AreBytes bytes = (k : ℕ) → slice_index bytes k < 256

pub no_bytes : AreBytes []
no_bytes k = omega arith

pub one_more : (b : ℕ) (bytes : List ℕ) → b < 256 → AreBytes bytes → AreBytes (b ∷ bytes)
one_more b bytes l h zero = l
one_more b bytes l h (suc k) = h k

-- ---- a text

abbrev ReadsBytes : Option (List ℕ × List ℕ) → Type 0
ReadsBytes None = Unit {0}
ReadsBytes (Some read) = AreBytes read.0

abbrev PutsByte : Turn → Type 0
PutsByte Ends = Unit {0}
PutsByte Escapes = Unit {0}
PutsByte (Puts b) = b < 256
PutsByte Fails = Unit {0}

onto_bytes : (b : ℕ) (o : Option (List ℕ × List ℕ)) → b < 256 → ReadsBytes o → ReadsBytes (onto_read b o)
onto_bytes b None l h = tt
onto_bytes b (Some read) l h = one_more b read.0 l h

after_bytes : (t : Turn) (rest : List ℕ) (escaped plain : Option (List ℕ × List ℕ)) → PutsByte t → ReadsBytes escaped → ReadsBytes plain → ReadsBytes (after_turn t rest escaped plain)
after_bytes Ends rest escaped plain p e h = no_bytes
after_bytes Escapes rest escaped plain p e h = e
after_bytes (Puts b) rest escaped plain p e h = onto_bytes b plain p h
after_bytes Fails rest escaped plain p e h = tt

escaped_byte : (b : ℕ) → PutsByte (escaped_turn b)
escaped_byte b = go (b == 110) (b == 48) (b == 92) (b == 34) where
  go : (feed null back quote : Bool) → PutsByte (if feed then Puts 10 else if null then Puts 0 else if back then Puts 92 else if quote then Puts 34 else Fails)
  go true null back quote = omega arith
  go false true back quote = omega arith
  go false false true quote = omega arith
  go false false false true = omega arith
  go false false false false = tt

plain_byte : (b : ℕ) → PutsByte (plain_turn b)
plain_byte b = go (b == 34) (b == 92) (nat_le 32 b && nat_le b 126) refl where
  go : (quote back printable : Bool) → (nat_le 32 b && nat_le b 126) ≡ printable → PutsByte (if quote then Ends else if back then Escapes else if printable then Puts b else Fails)
  go true back printable e = tt
  go false true printable e = tt
  go false false true e = let most = leb-true b 126 (and_parts (nat_le 32 b) (nat_le b 126) e).1 in omega (arith, most)
  go false false false e = tt

turn_byte : (escaped : Bool) (b : ℕ) → PutsByte (turn_of escaped b)
unfolding turn_of
turn_byte true b = escaped_byte b
turn_byte false b = plain_byte b

text_bytes_are : (escaped : Bool) (xs : List ℕ) → ReadsBytes (text_from escaped xs)
unfolding text_from
text_bytes_are escaped [] = tt
text_bytes_are escaped (b ∷ more) =
    after_bytes (turn_of escaped b) more (text_from true more) (text_from false more) (turn_byte escaped b) (text_bytes_are true more) (text_bytes_are false more)

-- ---- the end of a line

abbrev EndsBytes : EndingValue → Type 0
EndsBytes endings.Tokens = Unit {0}
EndsBytes (endings.Text bytes) = AreBytes bytes
EndsBytes endings.More = Unit {0}

abbrev EndsSome : Option EndingValue → Type 0
EndsSome None = Unit {0}
EndsSome (Some ending) = EndsBytes ending

ended_by_bytes : (bytes : List ℕ) (o : Option (List TokenValue)) → AreBytes bytes → EndsSome (ended_by bytes o)
ended_by_bytes bytes None h = tt
ended_by_bytes bytes (Some []) h = h
ended_by_bytes bytes (Some (token ∷ more)) h = tt

ended_bytes : (o : Option (List ℕ × List ℕ)) → ReadsBytes o → EndsSome (ended o)
ended_bytes None h = tt
ended_bytes (Some read) h = ended_by_bytes read.0 (tokens_of (without_comment read.1)) h

ending_bytes : (line : List ℕ) → EndsSome (ending_of line)
unfolding ending_of
ending_bytes line = ended_bytes (text_from false line) (text_bytes_are false line)

abbrev EndsRead : Option (List TokenValue × EndingValue) → Type 0
EndsRead None = Unit {0}
EndsRead (Some read) = EndsBytes read.1

both_bytes : (o : Option (List TokenValue)) (e : Option EndingValue) → EndsSome e → EndsRead (both o e)
both_bytes o None h = tt
both_bytes None (Some ending) h = tt
both_bytes (Some tokens) (Some ending) h = h

read_bytes : (at : Option (List ℕ × List ℕ)) (line : List ℕ) → EndsRead (read_by at line)
read_bytes None line = both_bytes (tokens_of (without_comment line)) (Some endings.Tokens) tt
read_bytes (Some at) line = both_bytes (tokens_of at.0) (ending_of at.1) (ending_bytes at.1)

line_bytes : (line : List ℕ) → EndsRead (line_read line)
unfolding line_read
line_bytes line = read_bytes (quoted_at line) line

-- ---- statements

-- a text has bytes
abbrev pub HoldsBytes : StatementValue → Type 0
HoldsBytes (Text bytes ends) = AreBytes bytes
HoldsBytes _ = Unit {0}

abbrev Holds : Result StatementValue LineError → Type 0
Holds (Err cause) = Unit {0}
Holds (Ok statement) = HoldsBytes statement

abbrev HoldsSome : Option StatementValue → Type 0
HoldsSome None = Unit {0}
HoldsSome (Some statement) = HoldsBytes statement

given_holds : (o : Option StatementValue) → HoldsSome o → Holds (ok_or o Operands)
given_holds None h = tt
given_holds (Some statement) h = h

org_holds : (o : Option Signed) → HoldsSome (option_map Org o)
org_holds None = tt
org_holds (Some number) = tt

align_holds : (o : Option ℕ) → HoldsSome (option_map Align o)
align_holds None = tt
align_holds (Some multiple) = tt

data_holds : (size : Size) (o : Option ExpressionValue) → HoldsSome (option_map (Data size) o)
data_holds size None = tt
data_holds size (Some value) = tt

space_holds : (o : Option ℕ) → HoldsSome (option_map Space o)
space_holds None = tt
space_holds (Some count) = tt

equ_holds : (test : Bool) (name : List ℕ) (o : Option ExpressionValue) → HoldsSome (if test then option_map (Equ name) o else None)
equ_holds false name o = tt
equ_holds true name None = tt
equ_holds true name (Some value) = tt

equated_holds : (operands : List TokenValue) → HoldsSome (equated operands)
unfolding equated
equated_holds [] = tt
equated_holds (tokens.Number n ∷ more) = tt
equated_holds (tokens.Mark m ∷ more) = tt
equated_holds (tokens.Word name ∷ []) = tt
equated_holds (tokens.Word name ∷ tokens.Word w ∷ more) = tt
equated_holds (tokens.Word name ∷ tokens.Number n ∷ more) = tt
equated_holds (tokens.Word name ∷ tokens.Mark mark ∷ more) = equ_holds (is_label name && mark == 44) name (expression_of more)

directed_holds : (d : Directive) (operands : List TokenValue) → HoldsSome (directed d operands)
unfolding directed
directed_holds directives.Org operands = org_holds (number_of operands)
directed_holds directives.Align operands = align_holds (alignment (number_of operands))
directed_holds (directives.Data size) operands = data_holds size (expression_of operands)
directed_holds directives.Equ operands = equated_holds operands
directed_holds directives.Space operands = space_holds (unsigned (number_of operands))
directed_holds (directives.Text ends) operands = tt

shaped_holds : (test : Bool) (width : Width) (mnemonic : List ℕ) (operands : List TokenValue) → Holds (if test then Ok (Instruction width mnemonic operands) else Err Operands)
shaped_holds true width mnemonic operands = tt
shaped_holds false width mnemonic operands = tt

width_holds : (o : Option Width) (mnemonic : List ℕ) (operands : List TokenValue) → Holds (with_width o mnemonic operands)
width_holds None mnemonic operands = tt
width_holds (Some width) mnemonic operands = shaped_holds (shaped mnemonic operands) width mnemonic operands

instructed_holds : (mnemonic : List ℕ) (operands : List TokenValue) → Holds (instructed mnemonic operands)
unfolding instructed
instructed_holds mnemonic operands = width_holds (width_of_word mnemonic) mnemonic operands

worded_by_holds : (o : Option Directive) (word : List ℕ) (operands : List TokenValue) → Holds (worded_by o word operands)
worded_by_holds (Some d) word operands = given_holds (directed d operands) (directed_holds d operands)
worded_by_holds None word operands = instructed_holds word operands

statement_holds : (tokens : List TokenValue) → Holds (statement_of tokens)
unfolding statement_of worded
statement_holds [] = tt
statement_holds (tokens.Word word ∷ operands) = worded_by_holds (directive_of word) word operands
statement_holds (tokens.Number n ∷ operands) = tt
statement_holds (tokens.Mark m ∷ operands) = tt

-- ---- statements with a text

abbrev SomeBytes : Option (List ℕ) → Type 0
SomeBytes None = Unit {0}
SomeBytes (Some bytes) = AreBytes bytes

text_holds : (ends : Bool) (text : Option (List ℕ)) → SomeBytes text → HoldsSome (option_map (λ bytes. Text bytes ends) text)
text_holds ends None h = tt
text_holds ends (Some bytes) h = h

with_text_holds : (d : Directive) (operands : List TokenValue) (text : Option (List ℕ)) → SomeBytes text → HoldsSome (with_text d operands text)
with_text_holds (directives.Text ends) [] text h = text_holds ends text h
with_text_holds (directives.Text ends) (token ∷ operands) text h = tt
with_text_holds directives.Org operands text h = tt
with_text_holds directives.Align operands text h = tt
with_text_holds (directives.Data size) operands text h = tt
with_text_holds directives.Equ operands text h = tt
with_text_holds directives.Space operands text h = tt

texted_by_holds : (o : Option Directive) (operands : List TokenValue) (text : Option (List ℕ)) → SomeBytes text → Holds (texted_by o operands text)
texted_by_holds (Some (directives.Text ends)) operands text h = given_holds (with_text (directives.Text ends) operands text) (with_text_holds (directives.Text ends) operands text h)
texted_by_holds (Some directives.Org) operands text h = tt
texted_by_holds (Some directives.Align) operands text h = tt
texted_by_holds (Some (directives.Data size)) operands text h = tt
texted_by_holds (Some directives.Equ) operands text h = tt
texted_by_holds (Some directives.Space) operands text h = tt
texted_by_holds None operands text h = tt

texted_holds : (tokens : List TokenValue) (text : Option (List ℕ)) → SomeBytes text → Holds (texted tokens text)
unfolding texted
texted_holds [] text h = tt
texted_holds (tokens.Word word ∷ operands) text h = texted_by_holds (directive_of word) operands text h
texted_holds (tokens.Number n ∷ operands) text h = tt
texted_holds (tokens.Mark m ∷ operands) text h = tt

with_holds : (tokens : List TokenValue) (ending : EndingValue) → EndsBytes ending → Holds (statement_with tokens ending)
with_holds tokens endings.Tokens h = statement_holds tokens
with_holds tokens (endings.Text bytes) h = texted_holds tokens (Some bytes) h
with_holds tokens endings.More h = texted_holds tokens None tt

-- ---- lines

abbrev LineHolds : Result LineValue LineError → Type 0
LineHolds (Err cause) = Unit {0}
LineHolds (Ok value) = HoldsBytes value.statement

unlabelled_holds : (r : Result StatementValue LineError) → Holds r → LineHolds (unlabelled r)
unlabelled_holds (Err cause) h = tt
unlabelled_holds (Ok statement) h = h

labelled_holds : (name : List ℕ) (r : Result StatementValue LineError) → Holds r → LineHolds (labelled name r)
labelled_holds name (Err cause) h = tt
labelled_holds name (Ok statement) h = go (is_register name) where
  go : (test : Bool) → LineHolds (if test then Err Operands else Ok (record { label = Some name; statement = statement }))
  go true = tt
  go false = h

line_with_holds : (at : Option (List ℕ × List TokenValue)) (tokens : List TokenValue) (ending : EndingValue) → EndsBytes ending → LineHolds (line_with at tokens ending)
line_with_holds None tokens ending h = unlabelled_holds (statement_with tokens ending) (with_holds tokens ending h)
line_with_holds (Some at) tokens ending h = labelled_holds at.0 (statement_with at.1 ending) (with_holds at.1 ending h)

tokens_holds : (o : Option (List TokenValue × EndingValue)) → EndsRead o → LineHolds (tokens_said o)
unfolding line_of
tokens_holds None h = tt
tokens_holds (Some read) h = line_with_holds (label_at read.0) read.0 read.1 h

line_holds : (line : ℕ) (r : Result LineValue LineError) (value : LineValue) → LineHolds r → at_line line r ≡ Ok value → HoldsBytes value.statement
line_holds line (Err cause) value h e = absurd cc
line_holds line (Ok v) value h e = let same : v ≡ value = cc in subst (λ (x : LineValue). HoldsBytes x.statement) same h

-- the text of a line holds bytes
pub said_holds : (line : ℕ) (text : List ℕ) (value : LineValue) → said line text ≡ Ok value → HoldsBytes value.statement
unfolding said source_line
said_holds line text value e = line_holds line (tokens_said (line_read text)) value (tokens_holds (line_read text) (line_bytes text)) e
