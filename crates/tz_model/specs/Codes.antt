-- Codes, and what they mean by the instruction table.
use Rattle.std.specs.Prelude.{ℕ, unwrap_or}
use Rattle.tz_table.specs.declared.decoded.Decoded.{Decoded}
use Rattle.tz_table.specs.declared.units.Code.{Code}
use Rattle.tz_table.specs.Table.{decode_of}

-- the second halfword; that of a code that has none isn't looked at
abbrev pub second_of : Code → ℕ
second_of code = unwrap_or code.second 0

abbrev pub meaning_of : Code → Decoded
meaning_of code = decode_of code.first (second_of code)
