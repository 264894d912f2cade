-- No two rows of the table hold one code.
use Rattle.std.proofs.Common.{◌≡◌, ℕ, Some, true, refl}
use Rattle.std.specs.Prelude.{slice_get}
use Rattle.tz_table.specs.Rows.{TableRow, holds}
use Rattle.tz_table.specs.Table.{rows, refusals, decode_of, OneRow}
use Rattle.tz_table.specs.declared.decoded.Decoded.TheVariants.{One}
use Rattle.tz_table.proofs.Reduction.{all_apart}
use Rattle.tz_table.proofs.Scans.{patterns, scan-holds, one_row}

pub rows_apart : all_apart (patterns rows) ≡ true
unfolding all_apart rows
rows_apart = refl

-- what a row's code means in the row, it means in the table
pub decode_row : (f s k : ℕ) (r : TableRow) → slice_get rows k ≡ Some r → holds r f s ≡ true → decode_of f s ≡ One (r.insn f s) r.width
unfolding decode_of
decode_row f s k r g h = scan-holds refusals rows k r f s rows_apart g h

pub one_row_holds : OneRow
one_row_holds i j d e f s a b x y = one_row rows i j d e f s rows_apart a b x y
