use Rattle.std.proofs.Common.{List, ℕ, false, sym, subst}
use Rattle.tz_gates.specs.Scanned.{Scanned}
use Rattle.tz_gates.proofs.Scanning.{scanned_start}
use Rattle.tz_gates.proofs.scan.Scan.new.Goals as goal

pub returns : goal.returns
returns c = λ s. subst (λ (gates : List ℕ). Scanned s 0 gates false) (sym c.new.ensures.items) (scanned_start s)
