use Rattle.std.proofs.Common.{arith}
use Rattle.std.proofs.lemmas.Grind.{elements}
use Rattle.tz_scs.proofs.control.icsr_value.Goals as goal

-- The call that closes it, by name: a body that is refused is then told without a search for what to offer.
pub returns : goal.returns
returns c = first_of (assumption, grind (arith, elements))
