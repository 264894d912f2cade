-- Groups of rows that lie one after the other in the table.
use Rattle.std.proofs.Common.{ℕ, take, drop}
use Rattle.tz_table.specs.Table.{rows}
use Rattle.tz_encode.specs.declared.shapes.TheConstants.{SHAPES}
use Rattle.tz_encode.proofs.Described.{AllDescribed}

-- what is shown of a row, and of those after it
infixr 10 ◌⨾◌
abbrev pub ◌⨾◌ : {A B : Type 0} → A → B → A × B
◌⨾◌ a b = (a, b)

-- the n rows from row k on are described by their slots
abbrev pub GroupDescribed : ℕ → ℕ → Type 0
GroupDescribed k n = AllDescribed (take n (drop k rows)) (take n (drop k SHAPES))
