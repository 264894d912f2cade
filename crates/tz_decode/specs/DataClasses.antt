-- What an operation of data does with its registers. Its codes with a constant and those with a shifted register tell
-- it by the same fields.
use Rattle.std.specs.Prelude.{ℕ, ◌==◌, ◌&&◌, List, [], ◌∷◌, if◌then◌else◌}
use Rattle.tz_table.specs.Patterns.{Field, first, second, has_all}
use Rattle.tz_table.specs.declared.instruction.DataOp.TheVariants.{And, Bic, Orr, Orn, Eor, Add, Adc, Sbc, Sub, Rsb, Tst, Teq, Cmn, Cmp}
use Rattle.tz_decode.specs.declared.classes.DataClass.{DataClass}
use Rattle.tz_decode.specs.declared.classes.DataClass.TheVariants.{Plain, Sum, Move, MoveNot, Test, Comparison, Undefined}

-- the number of an operation, the fields that its codes have beside it, and their class
pub record ClassRow : Type 0 where
  pub number : ℕ
  pub fields : List Field
  pub class : DataClass

abbrev pub row : ℕ → List Field → DataClass → ClassRow
row number fields class = record { number = number; fields = fields; class = class }

-- Rd is 15; Rn is 15; S is set
abbrev pub d15 : Field
d15 = second 8 4 15

abbrev pub n15 : Field
n15 = first 0 4 15

abbrev pub s1 : Field
s1 = first 4 1 1

-- all rows: of those of a code the first counts
unfoldable pub class_rows : List ClassRow
class_rows =
    row 0 (d15 ∷ s1 ∷ []) (Test Tst) ∷
    row 0 (d15 ∷ []) Undefined ∷
    row 0 [] (Plain And) ∷
    row 1 [] (Plain Bic) ∷
    row 2 (n15 ∷ []) Move ∷
    row 2 [] (Plain Orr) ∷
    row 3 (n15 ∷ []) MoveNot ∷
    row 3 [] (Plain Orn) ∷
    row 4 (d15 ∷ s1 ∷ []) (Test Teq) ∷
    row 4 (d15 ∷ []) Undefined ∷
    row 4 [] (Plain Eor) ∷
    row 8 (d15 ∷ s1 ∷ []) (Comparison Cmn) ∷
    row 8 (d15 ∷ []) Undefined ∷
    row 8 [] (Sum Add) ∷
    row 10 [] (Plain Adc) ∷
    row 11 [] (Plain Sbc) ∷
    row 13 (d15 ∷ s1 ∷ []) (Comparison Cmp) ∷
    row 13 (d15 ∷ []) Undefined ∷
    row 13 [] (Sum Sub) ∷
    row 14 [] (Plain Rsb) ∷
    []

-- the class of the first row that has the number and whose fields the code has
abbrev pub class_in : List ClassRow → ℕ → ℕ → ℕ → DataClass
class_in [] number f s = Undefined
class_in (r ∷ rs) number f s = if number == r.number && has_all r.fields f s then r.class else class_in rs number f s

-- the class of the operation of this number in a code
unfoldable pub class_of : ℕ → ℕ → ℕ → DataClass
class_of number f s = class_in class_rows number f s
