-- What stands at the front of the bytes of a run.
use Rattle.std.specs.Prelude.{ℕ, ◌+◌, ◌*◌, ◌%◌, ◌==◌, ◌||◌, nat_lt, if◌then◌else◌, List, [], ◌∷◌, ◌++◌, length, slice_index, codes, Option, Some, None, unwrap_or}
use Rattle.tz_table.specs.Table.{decode_of}
use Rattle.tz_table.specs.declared.decoded.Decoded.{Decoded}
use Rattle.tz_table.specs.declared.decoded.Decoded.TheVariants.{One, NoCoprocessor, Undefined}
use Rattle.tz_syntax.specs.Digits.{hex_byte, hex_half, hex_word}
use Rattle.tz_syntax.specs.Text.{text_of}
use Rattle.tz_text.specs.Instruction.{code_text}
use Rattle.tz_text.specs.declared.disassembly.fronts.Front.{Front}
use Rattle.tz_text.specs.declared.disassembly.fronts.Front.TheVariants.{Byte, Half, Whole}

-- the halfword at a place of bytes, the low byte first
abbrev pub half_at : List ℕ → ℕ → ℕ
half_at bytes k = slice_index bytes k + 256 * slice_index bytes (k + 1)

-- the second halfword, where there is one
abbrev pub second_half : List ℕ → Option ℕ
second_half bytes = if nat_lt (length bytes) 4 then None else Some (half_at bytes 2)

abbrev pub paired : ℕ → Option ℕ → Front
paired first None = Half first
paired first (Some second) = Whole (record { first = first; second = Some second })

-- what a halfword begins: below 0xe800 it is a code, and from there on the first half of one
abbrev pub begun : ℕ → Option ℕ → Front
begun first second = if nat_lt first 0xe800 then Whole (record { first = first; second = None }) else paired first second

-- a byte at an odd address, or one that is left at the end, stands alone
abbrev pub read_front : ℕ → List ℕ → Front
read_front at bytes =
    if (at % 2 == 1) || nat_lt (length bytes) 2 then Byte (slice_index bytes 0) else begun (half_at bytes 0) (second_half bytes)

-- the text of what a code means, empty where it is no instruction
abbrev pub meaning_text : ℕ → Decoded → List ℕ
meaning_text at (One insn width) = text_of insn width at
meaning_text at NoCoprocessor = []
meaning_text at (Undefined width) = []

abbrev pub text_at : ℕ → Front → List ℕ
text_at at (Byte b) = codes ".byte 0x" ++ hex_byte b
text_at at (Half h) = codes ".half 0x" ++ hex_half h
text_at at (Whole code) = meaning_text at (decode_of code.first (unwrap_or code.second 0))

-- a code's first halfword alone
abbrev pub first_alone : Front → Front
first_alone (Byte b) = Byte b
first_alone (Half h) = Half h
first_alone (Whole code) = Half code.first

-- where there is no text, the first halfword stands alone
abbrev pub settled : List ℕ → Front → Front
settled [] front = first_alone front
settled (c ∷ text) front = front

unfoldable pub front_of : ℕ → List ℕ → Front
front_of at bytes = settled (text_at at (read_front at bytes)) (read_front at bytes)

abbrev pub code_size : Option ℕ → ℕ
code_size None = 2
code_size (Some second) = 4

-- how many bytes stand there
abbrev pub size_of : Front → ℕ
size_of (Byte b) = 1
size_of (Half h) = 2
size_of (Whole code) = code_size code.second

abbrev pub digits_of : Front → List ℕ
digits_of (Byte b) = hex_byte b
digits_of (Half h) = hex_half h
digits_of (Whole code) = code_text code

-- a line with its line feed: the address, the code, and the text
abbrev pub line_of : ℕ → Front → List ℕ
line_of at front = hex_word at ++ codes " " ++ digits_of front ++ codes " " ++ text_at at front ++ codes "\n"
