use Rattle.tz_bits.proofs.Back.{same_values}
use Rattle.tz_bits.proofs.by_field.values_tell_all.Goals as goal

pub returns : goal.returns
returns c = same_values
