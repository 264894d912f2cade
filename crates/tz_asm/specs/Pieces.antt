-- Operands read by the pieces of a row's text: what is read so far, and how each piece goes on.
use Rattle.std.specs.Prelude.{ℕ, ◌/◌, ◌*◌, Bool, false, ◌||◌, ◌&&◌, if◌then◌else◌, List, [], ◌∷◌, codes, Option, Some, None, option_and_then, slice_set, ℤ, pos}
use Rattle.std.specs.Ordering.{int_eq}
use Rattle.tz_syntax.specs.Tokens.{TokenValue}
use Rattle.tz_syntax.specs.Pieces.{program_counter}
use Rattle.tz_syntax.specs.Spelling.{register_of, condition_of, special_of, spells}
use Rattle.tz_syntax.specs.declared.row.Mark.{Mark}
use Rattle.tz_syntax.specs.declared.row.Mark.TheVariants.{Gap, Comma, Open, Close, Back, Pc, Doubled}
use Rattle.tz_syntax.specs.declared.row.Piece.{Piece}
use Rattle.tz_syntax.specs.declared.row.Piece.TheVariants as pieces
use Rattle.tz_asm.specs.Bits.{even_offset, offset_to}
use Rattle.tz_asm.specs.Front.{◌>>=◌, mark_at, word_at}
use Rattle.tz_asm.specs.CodedOperands.{OperandRead, ShiftRead, TargetRead, name_at, number_operand, expanded_operand, shift_operand, amount_operand, written_amount, list_operand, masks_of, label_at, target_at}

-- what was read so far: the tokens that are left, the nine values, whether each operand has a value that an
-- instruction may have, and whether a label was read
pub record Progress : Type 0 where
  pub rest : List TokenValue
  pub values : List ℤ
  pub held : Bool
  pub labelled : Bool

-- where the statement stands: its place, and what its label stands for
pub record Site : Type 0 where
  pub place : ℕ
  pub label : ℕ

abbrev pub with_rest : List TokenValue → Progress → Progress
with_rest rest p = record { rest = rest; values = p.values; held = p.held; labelled = p.labelled }

-- a value at a place, where the operand has one
abbrev pub with_value : ℕ → Option ℤ → Progress → Progress
with_value j None p = record { rest = p.rest; values = p.values; held = false; labelled = p.labelled }
with_value j (Some z) p = record { rest = p.rest; values = slice_set p.values j z; held = p.held; labelled = p.labelled }

-- behind a mark
abbrev pub behind_mark : Option (List TokenValue) → Progress → Option Progress
behind_mark None p = None
behind_mark (Some rest) p = Some (with_rest rest p)

-- behind an operand whose value goes to a place
abbrev pub behind_operand : ℕ → Option OperandRead → Progress → Option Progress
behind_operand j None p = None
behind_operand j (Some operand) p = Some (with_value j operand.0 (with_rest operand.1 p))

-- behind a shift: its kind, and its amount
abbrev pub behind_shift : ℕ → ℕ → Option ShiftRead → Progress → Option Progress
behind_shift i j None p = None
behind_shift i j (Some shift) p = Some (with_value j shift.1 (with_value i (Some (pos shift.0)) (with_rest shift.2 p)))

-- behind a shift whose amount has to be 1
abbrev pub is_one : Option ℤ → Bool
is_one None = false
is_one (Some z) = int_eq z (pos 1)

abbrev pub behind_doubled : Option OperandRead → Progress → Option Progress
behind_doubled None p = None
behind_doubled (Some operand) p = Some (record { rest = operand.1; values = p.values; held = p.held && is_one operand.0; labelled = p.labelled })

-- behind a name of masks
abbrev pub behind_masks : ℕ → ℕ → Option (ℕ × ℕ) → List TokenValue → Progress → Option Progress
behind_masks i j None rest p = None
behind_masks i j (Some masks) rest p = Some (with_value j (Some (pos masks.1)) (with_value i (Some (pos masks.0)) (with_rest rest p)))

abbrev pub labelled_by : Bool → Progress → Progress
labelled_by label p = record { rest = p.rest; values = p.values; held = p.held; labelled = p.labelled || label }

-- behind a target, by what gives its value from an address
abbrev pub behind_target : ℕ → (ℕ → Option ℤ) → Option TargetRead → Progress → Option Progress
behind_target j offset None p = None
behind_target j offset (Some target) p = Some (labelled_by target.1 (with_value j (option_and_then offset target.0) (with_rest target.2 p)))

-- the name of the program counter
unfoldable pub pc_at : List TokenValue → Option (List TokenValue)
pc_at tokens = do
  word ← word_at tokens
  if spells word.0 (codes "pc") then Some word.1 else None

-- a name of masks
unfoldable pub masks_read : ℕ → ℕ → Progress → Option Progress
masks_read i j p = do
  word ← word_at p.rest
  behind_masks i j (masks_of word.0) word.1 p

unfoldable pub mark_read : Mark → Progress → Option Progress
mark_read Gap p = Some p
mark_read Comma p = behind_mark (mark_at 44 p.rest) p
mark_read Open p = behind_mark (mark_at 91 p.rest) p
mark_read Close p = behind_mark (mark_at 93 p.rest) p
mark_read Back p = behind_mark (mark_at 33 p.rest) p
mark_read Pc p = behind_mark (pc_at p.rest) p
mark_read Doubled p = behind_doubled (written_amount p.rest) p

-- the address that targets are counted from, as it is and aligned
abbrev pub aligned_base : ℕ → ℕ
aligned_base place = program_counter place / 4 * 4

-- behind a piece. The letters of a mnemonic aren't among the operands
unfoldable pub piece_read : Piece → Site → Progress → Option Progress
piece_read (pieces.Mark mark) s p = mark_read mark p
piece_read (pieces.Register j) s p = behind_operand j (name_at register_of p.rest) p
piece_read (pieces.Number j) s p = behind_operand j (number_operand p.rest) p
piece_read (pieces.Expanded j) s p = behind_operand j (expanded_operand p.rest) p
piece_read (pieces.Target j) s p = behind_target j (even_offset (program_counter s.place)) (target_at s.label p.rest) p
piece_read (pieces.AlignedTarget j) s p = behind_target j (even_offset (aligned_base s.place)) (target_at s.label p.rest) p
piece_read (pieces.List j) s p = behind_operand j (list_operand p.rest) p
piece_read (pieces.Shift i j) s p = behind_shift i j (shift_operand p.rest) p
piece_read (pieces.Left j) s p = behind_operand j (amount_operand 0 p.rest) p
piece_read (pieces.Right j) s p = behind_operand j (amount_operand 2 p.rest) p
piece_read (pieces.Rotated j) s p = behind_operand j (amount_operand 3 p.rest) p
piece_read (pieces.Special j) s p = behind_operand j (name_at special_of p.rest) p
piece_read (pieces.Condition j) s p = behind_operand j (name_at condition_of p.rest) p
piece_read (pieces.Letters i j) s p = Some p
piece_read (pieces.Masks i j) s p = masks_read i j p

-- behind pieces, one after another
unfoldable pub pieces_read : List Piece → Site → Progress → Option Progress
pieces_read [] s p = Some p
pieces_read (piece ∷ more) s p = piece_read piece s p >>= pieces_read more s

abbrev pub any_offset : ℕ → ℕ → Option ℤ
any_offset base address = Some (offset_to base address)

-- behind `rt, label`: a load of the word at a label, which may be odd
unfoldable pub label_load_read : Site → Progress → Option Progress
label_load_read s p = do
  q ← behind_operand 5 (name_at register_of p.rest) p
  r ← behind_mark (mark_at 44 q.rest) q
  behind_target 6 (any_offset (aligned_base s.place)) (label_at s.label r.rest) r
