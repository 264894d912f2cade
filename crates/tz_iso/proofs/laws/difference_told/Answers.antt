use Rattle.tz_iso.proofs.Agreement.{agree_of, none_of, first_of}
use Rattle.tz_iso.proofs.laws.difference_told.Goals as goal

pub returns : goal.returns
returns c = record {
  agree = λ events k n s t linked e. agree_of events n k s t linked e;
  none = λ events k n s t linked agree. none_of events n k s t linked agree;
  first = λ events n j what s t linked e. first_of events n j what s t linked e;
}
