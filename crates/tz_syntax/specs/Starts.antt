-- Where the rows of a form and a width begin; 0 where there are none.
use Rattle.std.specs.Prelude.{ℕ, slice_get, unwrap_or}
use Rattle.tz_table.specs.declared.units.Width.{Width}
use Rattle.tz_table.specs.declared.units.Width.TheVariants.{Narrow, Wide}
use Rattle.tz_syntax.specs.declared.rows.table.TheConstants.{STARTS}

abbrev pub side : Width → ℕ × ℕ → ℕ
side Narrow starts = starts.0
side Wide starts = starts.1

abbrev pub start_at : ℕ → Width → ℕ
start_at form width = side width (unwrap_or (slice_get STARTS form) (0, 0))
