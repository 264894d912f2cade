-- A code as digits, and the text of what it means.
use Rattle.std.specs.Prelude.{ℕ, List, [], ◌++◌, codes, Option, Some, None}
use Rattle.tz_table.specs.declared.decoded.Decoded.{Decoded}
use Rattle.tz_table.specs.declared.decoded.Decoded.TheVariants.{One, NoCoprocessor, Undefined}
use Rattle.tz_table.specs.declared.units.Code.{Code}
use Rattle.tz_table.specs.declared.units.Width.TheVariants.{Narrow, Wide}
use Rattle.tz_model.specs.Codes.{meaning_of, second_of}
use Rattle.tz_syntax.specs.Digits.{hex_half, hex_word}
use Rattle.tz_syntax.specs.Text.{text_of}

abbrev pub second_text : Option ℕ → List ℕ
second_text None = []
second_text (Some second) = hex_half second

-- four or eight digits
abbrev pub code_text : Code → List ℕ
code_text code = hex_half code.first ++ second_text code.second

-- a code of 32 bits that is no instruction
abbrev pub wide_text : Code → List ℕ
wide_text code = codes ".inst.w 0x" ++ hex_half code.first ++ hex_half (second_of code)

-- one of 16 bits (own)
abbrev pub narrow_text : Code → List ℕ
narrow_text code = codes ".inst.n 0x" ++ hex_half code.first

-- the text of what a code at an address means
abbrev pub meaning_text : ℕ → Code → Decoded → List ℕ
meaning_text pc code (One insn width) = text_of insn width pc
meaning_text pc code NoCoprocessor = wide_text code
meaning_text pc code (Undefined Wide) = wide_text code
meaning_text pc code (Undefined Narrow) = narrow_text code

-- what a line shows of the instruction with a code at an address
abbrev pub ran_text : ℕ → Code → List ℕ
ran_text pc code = codes "N " ++ hex_word pc ++ codes " " ++ code_text code ++ codes " " ++ meaning_text pc code (meaning_of code)
