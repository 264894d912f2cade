-- The code that a table gives for an instruction at a width, and why it gives none.
use Rattle.std.specs.Prelude.{◌≡◌, ℕ, ◌+◌, ◌<◌, List, Option, Some, None, slice_get, Result, Ok, Err}
use Rattle.tz_encode.specs.declared.error.EncodeError.{EncodeError}
use Rattle.tz_encode.specs.declared.error.EncodeError.TheVariants.{NoForm, Range}
use Rattle.tz_bits.specs.Values.{names_of}
use Rattle.tz_encode.specs.Codes.{Blames, IsCode, IsLeastCode, Reaches}
use Rattle.tz_table.specs.Rows.{TableRow}
use Rattle.tz_table.specs.Table.{decode_of}
use Rattle.tz_table.specs.declared.decoded.Decoded.{Decoded}
use Rattle.tz_table.specs.declared.instruction.Insn.{Insn}
use Rattle.tz_table.specs.declared.units.Code.{Code}
use Rattle.tz_table.specs.declared.units.Width.{Width}
use Rattle.tz_table.specs.declared.units.Width.TheVariants.{Narrow, Wide}

-- two halfwords as a code of the width: a narrow code has no second
abbrev pub code_of : Width → ℕ × ℕ → Code
code_of Narrow c = record { first = c.0; second = None }
code_of Wide c = record { first = c.0; second = Some c.1 }

abbrev pub second_of : Option ℕ → ℕ
second_of None = 0
second_of (Some s) = s

-- what a code means in the instruction table
abbrev pub meaning_of : Code → Decoded
meaning_of c = decode_of c.first (second_of c.second)

-- row k is r, and has the width
pub record At (rows : List TableRow) (w : Width) (k : ℕ) (r : TableRow) : Type 0 where
  pub there : slice_get rows k ≡ Some r
  pub width : r.width ≡ w

-- a code of the row means an instruction of the same form as i: the first five values, which are those that
-- aren't numbers, are the same
abbrev pub HasForm : TableRow → Insn → Type 0
HasForm r i = (f : ℕ) × ((s : ℕ) × Reaches r 5 i f s)

-- a code of the row means i
abbrev pub HasCode : TableRow → Insn → Type 0
HasCode r i = (f : ℕ) × ((s : ℕ) × IsCode r i f s)

-- c is the least code of i in a row of the width, and the rows of the width that come earlier have none
pub record FirstCode (rows : List TableRow) (w : Width) (i : Insn) (c : ℕ × ℕ) : Type 0 where
  pub place : ℕ
  pub row : TableRow
  pub at : At rows w place row
  pub least : IsLeastCode row i c.0 c.1
  pub none_before : (k : ℕ) (r : TableRow) → k < place → At rows w k r → HasCode r i → ⊥

-- i has no code of the width. The last row with its form blames number n, a register, a constant or an
-- offset: codes of that row have the form and all numbers before it, but none has this one too
pub record LastBlame (rows : List TableRow) (w : Width) (i : Insn) (n : ℕ) : Type 0 where
  pub no_code : (k : ℕ) (r : TableRow) → At rows w k r → HasCode r i → ⊥
  pub place : ℕ
  pub row : TableRow
  pub at : At rows w place row
  pub blames : Blames row i (5 + n)
  pub no_form_after : (k : ℕ) (r : TableRow) → place < k → At rows w k r → HasForm r i → ⊥

-- what the rows of a width give for an instruction
unfoldable pub EncodedIn : List TableRow → Width → Insn → Result Code EncodeError → Type 0
EncodedIn rows w i (Ok code) = (c : ℕ × ℕ) × (FirstCode rows w i c × (code ≡ code_of w c))
EncodedIn rows w i (Err NoForm) = (k : ℕ) (r : TableRow) → At rows w k r → HasForm r i → ⊥
EncodedIn rows w i (Err (Range name)) = (n : ℕ) × (LastBlame rows w i n × (slice_get (names_of i) n ≡ Some name))
