-- Faults that aren't SVC.
use Rattle.std.proofs.Common.{◌≡◌, Bool, true, false, Result, Ok, Err}
use Rattle.tz_model.specs.declared.report.Fault.{Fault}
use Rattle.tz_model.specs.declared.report.Fault.TheVariants.{Call}

-- SVC
abbrev pub is_call : Fault → Bool
is_call Call = true
is_call fault = false

-- what may fault, but not as SVC does
abbrev pub Uncalled : {A : Type 0} → Result A Fault → Type 0
Uncalled (Ok x) = Unit {0}
Uncalled (Err fault) = is_call fault ≡ false

pub uncalled_fault : {A : Type 0} (x : Result A Fault) (fault : Fault) → Uncalled x → x ≡ Err fault → is_call fault ≡ false
uncalled_fault (Ok x) fault k e = cc
uncalled_fault (Err other) fault k e = cc
