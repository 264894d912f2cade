-- The codes of an instruction in a row, and what is to blame where there is none.
use Rattle.std.specs.Prelude.{◌≡◌, ℕ, suc, ◌+◌, ◌*◌, ◌<◌, ◌≤◌, true, take, Result, Ok, Err}
use Rattle.tz_bits.specs.Values.{values_of}
use Rattle.tz_table.specs.Rows.{TableRow, holds}
use Rattle.tz_table.specs.declared.instruction.Insn.{Insn}
use Rattle.tz_table.specs.declared.units.Width.{Width}
use Rattle.tz_table.specs.declared.units.Width.TheVariants.{Narrow, Wide}

-- how many second halfwords a code of the width can have; a narrow one counts as having 0
abbrev pub seconds : Width → ℕ
seconds Narrow = 1
seconds Wide = 65536

-- a code that the row holds
pub record InRow (r : TableRow) (f s : ℕ) : Type 0 where
  pub first_fits : f < 65536
  pub second_fits : s < seconds r.width
  pub held : holds r f s ≡ true

-- a code of the row that means an instruction with the first n values of i: its variant, the other fields
-- of its form, and its numbers
pub record Reaches (r : TableRow) (n : ℕ) (i : Insn) (f s : ℕ) : Type 0 where
  pub code : InRow r f s
  pub means : take n (values_of (r.insn f s)) ≡ take n (values_of i)

-- a code of the row that means i
pub record IsCode (r : TableRow) (i : Insn) (f s : ℕ) : Type 0 where
  pub code : InRow r f s
  pub means : r.insn f s ≡ i

-- the least code, by the first halfword and then by the second
pub record IsLeastCode (r : TableRow) (i : Insn) (f s : ℕ) : Type 0 where
  pub code : IsCode r i f s
  pub least : (g t : ℕ) → IsCode r i g t → f * 65536 + s ≤ g * 65536 + t

-- the value at place n is the first that no code of the row has together with those before it
pub record Blames (r : TableRow) (i : Insn) (n : ℕ) : Type 0 where
  pub before : (f : ℕ) × ((s : ℕ) × Reaches r n i f s)
  pub never : (f s : ℕ) → Reaches r (suc n) i f s → ⊥

-- what a row gives for an instruction: its least code, or the place of the value to blame
unfoldable pub Tried : TableRow → Insn → Result (ℕ × ℕ) ℕ → Type 0
Tried r i (Ok c) = IsLeastCode r i c.0 c.1
Tried r i (Err n) = Blames r i n × n < 9
