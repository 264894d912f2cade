-- The text of an instruction: that of the first row that fits.
use Rattle.std.specs.Prelude.{ℕ, List, [], ◌++◌, Option, Some, None, ℤ}
use Rattle.std.specs.List.{find}
use Rattle.tz_bits.specs.Values.{values_of}
use Rattle.tz_table.specs.declared.instruction.Insn.{Insn}
use Rattle.tz_table.specs.declared.units.Width.{Width}
use Rattle.tz_syntax.specs.DataTexts.{constants, registers, other_data}
use Rattle.tz_syntax.specs.MemoryTexts.{loads, stores, pairs, multiples, exclusives}
use Rattle.tz_syntax.specs.OtherTexts.{branches, system}
use Rattle.tz_syntax.specs.Rows.{TextRowValue, fits, row_text}

-- all rows
unfoldable pub texts : List TextRowValue
texts = constants ++ registers ++ other_data ++ loads ++ stores ++ pairs ++ multiples ++ exclusives ++ branches ++ system

-- the text of a row, where there is one
abbrev pub found_text : Option TextRowValue → List ℤ → ℕ → List ℕ
found_text None e pc = []
found_text (Some r) e pc = row_text r e pc

abbrev pub text_of_values : List ℤ → Width → ℕ → List ℕ
text_of_values e width pc = found_text (find (fits e width) texts) e pc

-- the text of an instruction of a width at an address. An instruction that has no code of that width may
-- have none, and its text is then empty
abbrev pub text_of : Insn → Width → ℕ → List ℕ
text_of insn width pc = text_of_values (values_of insn) width pc
