-- What is known in the course of a search through the rows of a table.
use Rattle.std.specs.Prelude.{ℕ, ◌+◌, ◌<◌, List, Option, Some, None, Result, Ok, Err}
use Rattle.tz_encode.specs.Encoded.{At, FirstCode, HasCode, HasForm}
use Rattle.tz_encode.specs.Codes.{Blames}
use Rattle.tz_table.specs.Rows.{TableRow}
use Rattle.tz_table.specs.declared.instruction.Insn.{Insn}
use Rattle.tz_table.specs.declared.units.Width.{Width}

-- before row k the last row of the width with the form of i blames number n
pub record BlamedBefore (rows : List TableRow) (w : Width) (i : Insn) (k : ℕ) (n : ℕ) : Type 0 where
  pub place : ℕ
  pub row : TableRow
  pub before : place < k
  pub at : At rows w place row
  pub blames : Blames row i (5 + n)
  pub no_form_after : (j : ℕ) (r : TableRow) → place < j → j < k → At rows w j r → HasForm r i → ⊥

-- the same where there may be none that has the form
abbrev pub LastBefore : List TableRow → Width → Insn → ℕ → Option ℕ → Type 0
LastBefore rows w i k None = (j : ℕ) (r : TableRow) → j < k → At rows w j r → HasForm r i → ⊥
LastBefore rows w i k (Some n) = BlamedBefore rows w i k n

-- up to row k the width has no code of i; if its form was met, the last row with it blames that number
pub record NoneBefore (rows : List TableRow) (w : Width) (i : Insn) (k : ℕ) (blamed : Option ℕ) : Type 0 where
  pub no_code : (j : ℕ) (r : TableRow) → j < k → At rows w j r → HasCode r i → ⊥
  pub last : LastBefore rows w i k blamed

-- what a search up to row k finds: a code, or else the number to blame so far, if there is any
unfoldable pub Found : List TableRow → Width → Insn → ℕ → Result (ℕ × ℕ) (Option ℕ) → Type 0
Found rows w i k (Ok c) = FirstCode rows w i c
Found rows w i k (Err blamed) = NoneBefore rows w i k blamed
