use Rattle.tz_iso.proofs.Agreement.{crossings_same}
use Rattle.tz_iso.proofs.Told.{none_crossing}
use Rattle.tz_iso.proofs.laws.crossings_told.Goals as goal

pub returns : goal.returns
returns c = record {
  alike = λ s t due linked e. crossings_same s t due linked e;
  none = λ s t due e. none_crossing s t due e;
}
