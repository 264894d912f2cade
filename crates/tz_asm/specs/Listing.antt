-- A listing: each line of a source with where its bytes go and what they are, and behind the lines the labels (own).
use Rattle.std.specs.Prelude.{◌≡◌, ℕ, ◌+◌, ◌/◌, ◌%◌, ◌^◌, ◌==◌, ◌≤◌, nat_lt, not, ◌&&◌, if◌then◌else◌, List, [], ◌∷◌, ◌++◌, length, take, drop, flat_map, codes, decimal, Option, Some, None, Result, Ok, Err}
use Rattle.tz_asm.specs.FirstPass.{first_pass}
use Rattle.tz_asm.specs.Layouts.{advance, start}
use Rattle.tz_asm.specs.Places.{Places, value_named}
use Rattle.tz_asm.specs.Reading.{said}
use Rattle.tz_asm.specs.Refusals.{◌>>=◌, Refusal}
use Rattle.tz_asm.specs.SourceLines.{LineValue}
use Rattle.tz_asm.specs.Statements.{StatementValue, Equ, Instruction}
use Rattle.tz_asm.specs.Told.{assembled, written_by}
use Rattle.tz_asm.specs.declared.layout.Layout.{Layout}
use Rattle.tz_asm.specs.declared.listing.Listing.{Listing}
use Rattle.tz_asm.specs.declared.values.Value.{Value}
use Rattle.tz_syntax.specs.Digits.{hex_byte, hex_word}
use Rattle.tz_syntax.specs.Lines.{lines_of}

-- ---- what stands before a line of source

-- the digits of a code, halfword by halfword: the low byte of each is its first
unfoldable pub code_text : List ℕ → List ℕ
code_text (a ∷ b ∷ []) = hex_byte b ++ hex_byte a
code_text (a ∷ b ∷ c ∷ d ∷ []) = (hex_byte b ++ hex_byte a) ++ 32 ∷ (hex_byte d ++ hex_byte c)
code_text bytes = []

-- the digits of bytes; of more than eight the first four stand there, and how many there are
unfoldable pub data_text : List ℕ → List ℕ
data_text bytes =
    if nat_lt 8 (length bytes) then flat_map hex_byte (take 4 bytes) ++ codes ".." ++ decimal (length bytes)
    else flat_map hex_byte bytes

-- the digits of what a statement places
unfoldable pub placed_text : StatementValue → List ℕ → List ℕ
placed_text (Instruction width mnemonic operands) bytes = code_text bytes
placed_text statement bytes = data_text bytes

-- the address of the first byte, and what is placed there; nothing where that is no byte
unfoldable pub head_text : ℕ → StatementValue → List ℕ → List ℕ
head_text place statement [] = []
head_text place statement (b ∷ bytes) = hex_word place ++ codes "  " ++ placed_text statement (b ∷ bytes)

-- 32 columns: room for a head, and a bar
abbrev pub margin : List ℕ
margin = codes "                             |  "

-- a line of source as it stands, behind the margin that its head is written over
unfoldable pub line_text : List ℕ → List ℕ → List ℕ
line_text head text = head ++ drop (length head) margin ++ text ++ 10 ∷ []

-- ---- labels

-- an address in 8 digits, and a greater number in 16
unfoldable pub number_text : ℕ → List ℕ
number_text n = if nat_lt n (2 ^ 32) then hex_word n else hex_word (n / 2 ^ 32) ++ hex_word (n % 2 ^ 32)

-- a label and its place
unfoldable pub label_text : ℕ → Option (List ℕ) → List ℕ
label_text place None = []
label_text place (Some name) = number_text place ++ codes " " ++ name ++ 10 ∷ []

-- a value, with a `-` where it is below 0
unfoldable pub value_text : Value → List ℕ
value_text value = if value.negative && not (value.size == 0) then codes "-" ++ number_text value.size else number_text value.size

-- a name that an `.equ` gives a value, behind that and a `=`
abbrev pub named_text : Option Value → List ℕ → List ℕ
named_text None name = []
named_text (Some value) name = value_text value ++ codes " = " ++ name ++ 10 ∷ []

unfoldable pub equ_text : Places → StatementValue → List ℕ
equ_text places (Equ name value) = named_text (value_named places name) name
equ_text places statement = []

-- ---- line by line

-- what the lines so far give: the lines of the listing, those of labels, and those of names with values
pub record ListingValue : Type 0 where
  pub lines : List ℕ
  pub labels : List ℕ
  pub values : List ℕ

-- a listing as it is kept
abbrev pub listing_view : Listing → ListingValue
listing_view l = record { lines = l.lines.items; labels = l.labels.items; values = l.values.items }

abbrev pub no_lines : ListingValue
no_lines = record { lines = []; labels = []; values = [] }

-- a line of source behind others: what it says, the place before it, the bytes that it places there, and its text
unfoldable pub noted : Places → ℕ → LineValue → List ℕ → List ℕ → ListingValue → ListingValue
noted places place value bytes text l = record {
  lines = l.lines ++ line_text (head_text place value.statement bytes) text;
  labels = l.labels ++ label_text place value.label;
  values = l.values ++ equ_text places value.statement;
}

-- lines behind an empty one, where there are any
abbrev pub set_off : List ℕ → List ℕ
set_off [] = []
set_off (b ∷ more) = 10 ∷ b ∷ more

-- the labels stand in the order of their lines, which is that of their places, and behind them the names with values
abbrev pub whole : ListingValue → List ℕ
whole l = l.lines ++ set_off (l.labels ++ l.values)

-- a line's turn
unfoldable pub listed_turn : ℕ → Places → Layout → ListingValue → List ℕ → Result (Layout × ListingValue) Refusal
listed_turn line places layout l text =
    said line text >>= (λ value.
    advance line value.statement layout >>= (λ next.
    written_by line places layout.place value.statement >>= (λ bytes.
    Ok (next, noted places layout.place value bytes text l))))

-- the listing of the lines that are left, behind those of earlier lines
unfoldable pub listed_from : ℕ → Places → Layout → ListingValue → List (List ℕ) → Result (List ℕ) Refusal
listed_from line places layout l [] = Ok (whole l)
listed_from line places layout l (text ∷ texts) =
    listed_turn line places layout l text >>= (λ state. listed_from (line + 1) places state.0 state.1 texts)

-- the listing of a source whose labels have these places
unfoldable pub listed_with : List ℕ → Places → Result (List ℕ) Refusal
listed_with source places = listed_from 1 places start no_lines (lines_of source)

-- the listing of a source, or its first refusal
unfoldable pub listed : List ℕ → Result (List ℕ) Refusal
listed source = first_pass source >>= (λ places. listed_with source places)

-- ---- laws

-- the refusal that an answer is
abbrev pub refusal_in : {A : Type 0} → Result A Refusal → Option Refusal
refusal_in (Ok value) = None
refusal_in (Err refusal) = Some refusal

-- a source is listed where it is assembled, and else both are the same refusal
abbrev pub RefusedAlike : Type 0
RefusedAlike = (source : List ℕ) → refusal_in (listed source) ≡ refusal_in (assembled source)

-- no statement takes the place back, so labels ascend in the order of their lines
abbrev pub PlacesAscend : Type 0
PlacesAscend = (line : ℕ) (statement : StatementValue) (l next : Layout) → advance line statement l ≡ Ok next → l.place ≤ next.place
