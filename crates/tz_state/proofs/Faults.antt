-- What a refused access leaves.
use Rattle.std.proofs.Common.{◌≡◌, ℕ, Option, Some, None, refl}
use Rattle.std.specs.Prelude.{OnErr}
use Rattle.tz_table.specs.declared.units.Size.{Size}
use Rattle.tz_model.specs.declared.report.Fault.{Fault}
use Rattle.tz_model.specs.Ports.{Access, Load, Store, cut_to}
use Rattle.tz_state.specs.declared.request.Kind.TheVariants.{Read, Write}
use Rattle.tz_state.specs.Access.{Reached, read_by, write_by, access, access_verdict}

read_keeps : (v : Option Fault) (r : Reached) (size : Size) (a : ℕ) → OnErr (read_by v r size a).1 ((read_by v r size a).0 ≡ r)
read_keeps (Some fault) r size a = refl
read_keeps None r size a = tt

write_keeps : (v : Option Fault) (r : Reached) (size : Size) (a value : ℕ) → OnErr (write_by v r size a value).1 ((write_by v r size a value).0 ≡ r)
write_keeps (Some fault) r size a value = refl
write_keeps None r size a value = tt

-- an access that faults changes nothing
pub fault_keeps : (r : Reached) (a : Access) → OnErr (access r a).1 ((access r a).0 ≡ r)
unfolding access
fault_keeps r (Load size a must_align user) = read_keeps (access_verdict r Read size a must_align user) r size a
fault_keeps r (Store size a value must_align user) = write_keeps (access_verdict r Write size a must_align user) r size a (cut_to size value)
