-- The text of a piece: of the nine values of an instruction that stands at `pc`.
use Rattle.std.specs.Prelude.{ℕ, zero, suc, ◌+◌, ◌*◌, ◌/◌, ◌%◌, ◌^◌, ◌==◌, Bool, false, if◌then◌else◌, List, [], ◌∷◌, ◌++◌, codes, decimal, Option, Some, None, slice_get, unwrap_or, ℤ, pos, nat_abs}
use Rattle.std.specs.Fmt.{signed_decimal}
use Rattle.std.specs.Int.{w32, cast_unsigned}
use Rattle.std.specs.Ordering.{int_eq}
use Rattle.tz_bits.specs.Constants.{imm_of}
use Rattle.tz_table.specs.Limits.{is_listed}
use Rattle.tz_syntax.specs.Digits.{hex_word}
use Rattle.tz_syntax.specs.Names.{register_text, condition_text, shift_name, special_text}
use Rattle.tz_syntax.specs.declared.row.Mark.{Mark}
use Rattle.tz_syntax.specs.declared.row.Mark.TheVariants.{Gap, Comma, Open, Close, Back, Pc, Doubled}
use Rattle.tz_syntax.specs.declared.row.Piece.{Piece}
use Rattle.tz_syntax.specs.declared.row.Piece.TheVariants as pieces

-- the value at a place, and the same without its sign; past the end there is 0
abbrev pub value_at : List ℤ → ℕ → ℤ
value_at values place = unwrap_or (slice_get values place) (pos 0)

abbrev pub number_at : List ℤ → ℕ → ℕ
number_at values place = nat_abs (value_at values place)

-- the address of the instruction plus 4, as the instruction reads it
abbrev pub program_counter : ℕ → ℕ
program_counter pc = (pc + 4) % 2 ^ 32

-- the address that an offset leads to
abbrev pub target : ℕ → ℤ → ℕ
target base offset = (base + cast_unsigned w32 offset) % 2 ^ 32

abbrev pub address_text : ℕ → List ℕ
address_text address = codes "0x" ++ hex_word address

abbrev pub constant_text : ℤ → List ℕ
constant_text z = codes "#" ++ signed_decimal z

-- the constant without its sign: what twelve bits stand for
abbrev pub value_text : Option (ℕ × Bool) → List ℕ
value_text None = []
value_text (Some c) = decimal c.0

abbrev pub expanded_text : ℕ → List ℕ
expanded_text n = codes "#" ++ value_text (imm_of n false)

-- register k where the list has it, behind a comma where it isn't the lowest
abbrev pub listed_text : ℕ → ℕ → List ℕ
listed_text list k = if is_listed list k then ((if list % 2 ^ k == 0 then [] else codes ", ") ++ register_text k) else []

-- the same for n registers from k on
unfoldable pub listed_from : ℕ → ℕ → ℕ → List ℕ
listed_from list k zero = []
listed_from list k (suc n) = listed_text list k ++ listed_from list (k + 1) n

abbrev pub list_text : ℕ → List ℕ
list_text list = codes "{" ++ listed_from list 0 16 ++ codes "}"

-- a shift by 0 is left out, and RRX has no amount
abbrev pub shift_text : ℕ → ℤ → List ℕ
shift_text kind amount =
    if int_eq amount (pos 0) then [] else
    if kind == 4 then codes ", rrx" else codes ", " ++ shift_name kind ++ codes " #" ++ signed_decimal amount

-- the letter of the instruction that bit k of an IT mask stands for: there is one where a lower bit is set
abbrev pub letter_text : ℕ → ℕ → ℕ → List ℕ
letter_text cond mask k =
    if mask % 2 ^ k == 0 then [] else
    if mask / 2 ^ k % 2 == cond % 2 then codes "t" else codes "e"

abbrev pub letters_text : ℕ → ℕ → List ℕ
letters_text cond mask = letter_text cond mask 3 ++ letter_text cond mask 2 ++ letter_text cond mask 1

abbrev pub masks_text : ℕ → ℕ → List ℕ
masks_text i f = (if i == 1 then codes "i" else []) ++ (if f == 1 then codes "f" else [])

abbrev pub mark_text : Mark → List ℕ
mark_text Gap = codes " "
mark_text Comma = codes ", "
mark_text Open = codes "["
mark_text Close = codes "]"
mark_text Back = codes "!"
mark_text Pc = codes "pc"
mark_text Doubled = codes ", lsl #1"

abbrev pub piece_text : Piece → List ℤ → ℕ → List ℕ
piece_text (pieces.Mark mark) e pc = mark_text mark
piece_text (pieces.Register j) e pc = register_text (number_at e j)
piece_text (pieces.Number j) e pc = constant_text (value_at e j)
piece_text (pieces.Expanded j) e pc = expanded_text (number_at e j)
piece_text (pieces.Target j) e pc = address_text (target (program_counter pc) (value_at e j))
piece_text (pieces.AlignedTarget j) e pc = address_text (target (program_counter pc / 4 * 4) (value_at e j))
piece_text (pieces.List j) e pc = list_text (number_at e j)
piece_text (pieces.Shift i j) e pc = shift_text (number_at e i) (value_at e j)
piece_text (pieces.Left j) e pc = shift_text 0 (value_at e j)
piece_text (pieces.Right j) e pc = shift_text 2 (value_at e j)
piece_text (pieces.Rotated j) e pc = shift_text 3 (value_at e j)
piece_text (pieces.Special j) e pc = special_text (number_at e j)
piece_text (pieces.Condition j) e pc = condition_text (number_at e j)
piece_text (pieces.Letters i j) e pc = letters_text (number_at e i) (number_at e j)
piece_text (pieces.Masks i j) e pc = masks_text (number_at e i) (number_at e j)

unfoldable pub pieces_text : List Piece → List ℤ → ℕ → List ℕ
pieces_text [] e pc = []
pieces_text (p ∷ ps) e pc = piece_text p e pc ++ pieces_text ps e pc

-- ---- the most bytes that a text has

abbrev pub mark_most : Mark → ℕ
mark_most Gap = 1
mark_most Comma = 2
mark_most Open = 1
mark_most Close = 1
mark_most Back = 1
mark_most Pc = 2
mark_most Doubled = 8

abbrev pub piece_most : Piece → ℕ
piece_most (pieces.Mark mark) = mark_most mark
piece_most (pieces.Register j) = 3
piece_most (pieces.Number j) = 12
piece_most (pieces.Expanded j) = 11
piece_most (pieces.Target j) = 10
piece_most (pieces.AlignedTarget j) = 10
piece_most (pieces.List j) = 82
piece_most (pieces.Shift i j) = 18
piece_most (pieces.Left j) = 18
piece_most (pieces.Right j) = 18
piece_most (pieces.Rotated j) = 18
piece_most (pieces.Special j) = 12
piece_most (pieces.Condition j) = 2
piece_most (pieces.Letters i j) = 3
piece_most (pieces.Masks i j) = 2

abbrev pub pieces_most : List Piece → ℕ
pieces_most [] = 0
pieces_most (p ∷ ps) = piece_most p + pieces_most ps
