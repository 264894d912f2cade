-- A row of the table of texts, and how rows are written.
use Rattle.std.specs.Prelude.{ℕ, ◌+◌, length, ◌==◌, ◌&&◌, Bool, List, [], ◌∷◌, ◌++◌, Option, Some, None, ℤ, pos}
use Rattle.std.specs.List.{list_all}
use Rattle.std.specs.Ordering.{int_eq}
use Rattle.tz_table.specs.Rows.{same_width}
use Rattle.tz_table.specs.declared.units.Width.{Width}
use Rattle.tz_table.specs.declared.units.Width.TheVariants.{Narrow, Wide}
use Rattle.tz_syntax.specs.Pieces.{value_at, number_at, pieces_text, pieces_most}
use Rattle.tz_syntax.specs.declared.row.Mark.TheVariants.{Gap, Comma}
use Rattle.tz_syntax.specs.declared.row.Piece.{Piece}
use Rattle.tz_syntax.specs.declared.row.Piece.TheVariants as pieces
use Rattle.tz_syntax.specs.declared.row.TextRow.{TextRow}

-- the text of the instructions of this form and width that have these values at these places
pub record TextRowValue : Type 0 where
  pub form : ℕ
  pub width : Width
  pub fixed : List (ℕ × ℤ)
  pub mnemonic : List ℕ
  pub pieces : List Piece

-- each place has its value
abbrev pub has_fixed : List (ℕ × ℤ) → List ℤ → Bool
has_fixed fixed e = list_all (λ p. int_eq (value_at e p.0) p.1) fixed

-- the row is of this form and this width
abbrev pub is_of : ℕ → Width → TextRowValue → Bool
is_of form width r = r.form == form && same_width r.width width

-- the row is that of an instruction of this width with these values
abbrev pub fits : List ℤ → Width → TextRowValue → Bool
fits e width r = is_of (number_at e 0) width r && has_fixed r.fixed e

-- what a row says of the values of an instruction at an address, and the most bytes that this takes
abbrev pub row_text : TextRowValue → List ℤ → ℕ → List ℕ
row_text r e pc = r.mnemonic ++ pieces_text r.pieces e pc

abbrev pub row_most : TextRowValue → ℕ
row_most r = length r.mnemonic + pieces_most r.pieces

-- ---- rows as the program has them

-- what there is of each
abbrev pub somes : {A : Type 0} → List (Option A) → List A
somes [] = []
somes (None ∷ xs) = somes xs
somes (Some x ∷ xs) = x ∷ somes xs

abbrev pub row_view : TextRow → TextRowValue
row_view r = record { form = r.form; width = r.width; fixed = somes r.fixed; mnemonic = r.mnemonic.now; pieces = somes r.pieces }

-- ---- how rows are written

-- operands: a space before the first, a comma and a space before each other
abbrev pub later_operands : List (List Piece) → List Piece
later_operands [] = []
later_operands (o ∷ os) = pieces.Mark Comma ∷ o ++ later_operands os

abbrev pub operands : List (List Piece) → List Piece
operands [] = []
operands (o ∷ os) = pieces.Mark Gap ∷ o ++ later_operands os

-- a row of 16 bits and one of 32: form, fixed values, mnemonic, operands
abbrev pub narrow : ℕ → List (ℕ × ℤ) → List ℕ → List (List Piece) → TextRowValue
narrow form fixed mnemonic os = record { form = form; width = Narrow; fixed = fixed; mnemonic = mnemonic; pieces = operands os }

abbrev pub wide : ℕ → List (ℕ × ℤ) → List ℕ → List (List Piece) → TextRowValue
wide form fixed mnemonic os = record { form = form; width = Wide; fixed = fixed; mnemonic = mnemonic; pieces = operands os }

-- the same with letters behind the mnemonic: those of the condition and the mask at places 5 and 6
abbrev pub lettered : ℕ → List (ℕ × ℤ) → List ℕ → List (List Piece) → TextRowValue
lettered form fixed mnemonic os = record { form = form; width = Narrow; fixed = fixed; mnemonic = mnemonic; pieces = pieces.Letters 5 6 ∷ operands os }

-- the value at a place is n
abbrev pub is : ℕ → ℕ → ℕ × ℤ
is place n = (place, pos n)
