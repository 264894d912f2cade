-- When the execution priority is negative.
use Rattle.std.proofs.Common.{◌≡◌, ℕ, ◌+◌, Bool, true, false, cond, refl, arith}
use Rattle.std.specs.Prelude.{nat_lt, min, ◌==◌, ◌&&◌, ◌||◌}
use Rattle.std.proofs.lemmas.Bool.Decides.{nat_tests}
use Rattle.std.proofs.lemmas.Int.{ints}
use Rattle.tz_table.specs.declared.units.Side.{Side}
use Rattle.tz_table.specs.declared.units.Side.TheVariants.{Secure, NonSecure}
use Rattle.tz_regs.specs.declared.parts.Masks.{Masks}
use Rattle.tz_regs.specs.declared.parts.SideMasks.{SideMasks}
use Rattle.tz_state.specs.Slots.{ExceptionsValue}
use Rattle.tz_state.specs.Priority.{group_of, restricted_priority}
use Rattle.tz_state.specs.Execution.{raw_priority, basepri_priority, primask_priority, faultmask_priority, faultmask_set, side_priority, execution, manual_priority}
use Rattle.tz_state.specs.State.{is_negative_at}

least_negative : (a b : ℕ) → nat_lt (min a b) 4 ≡ (nat_lt a 4 || nat_lt b 4)
least_negative a b = grind (arith, nat_tests)

from_four : (n : ℕ) → nat_lt (4 + n) 4 ≡ false
from_four n = grind (arith, nat_tests)

masked : (none : Bool) (n : ℕ) → nat_lt (cond none 260 (4 + n)) 4 ≡ false
masked true n = refl
masked false n = from_four n

basepri_not : (e : ExceptionsValue) (side : Side) (byte : ℕ) → nat_lt (basepri_priority e side byte) 4 ≡ false
basepri_not e side byte = masked (byte == 0) (restricted_priority e side (group_of e side byte))

primask_not : (e : ExceptionsValue) (side : Side) (set : Bool) → nat_lt (primask_priority e side set) 4 ≡ false
primask_not e side true = from_four _
primask_not e side false = refl

-- whether a FAULTMASK of a side counts as HardFault
abbrev counts_hard : ExceptionsValue → Side → Bool → Bool
counts_hard e Secure set = set
counts_hard e NonSecure set = set && e.bfhfnmins

hard_secure : (on : Bool) → nat_lt (cond on 1 3) 4 ≡ true
hard_secure true = refl
hard_secure false = refl

hard_either : (on : Bool) (n : ℕ) → nat_lt (cond on 3 (4 + n)) 4 ≡ on
hard_either true n = refl
hard_either false n = from_four n

faultmask_negative : (e : ExceptionsValue) (side : Side) (set : Bool) → nat_lt (faultmask_priority e side set) 4 ≡ counts_hard e side set
faultmask_negative e Secure true = hard_secure e.bfhfnmins
faultmask_negative e NonSecure true = hard_either e.bfhfnmins (restricted_priority e NonSecure 0)
faultmask_negative e Secure false = refl
faultmask_negative e NonSecure false = refl

side_negative : (e : ExceptionsValue) (side : Side) (m : SideMasks) → nat_lt (side_priority e side m) 4 ≡ counts_hard e side m.faultmask
side_negative e side m =
    rw (least_negative, basepri_not e side m.basepri, least_negative, primask_not e side m.primask, faultmask_negative e side m.faultmask) refl

pub execution_negative : (e : ExceptionsValue) (m : Masks) →
    nat_lt (execution e m) 4 ≡ (nat_lt (raw_priority e) 4 || (m.s.faultmask || (m.ns.faultmask && e.bfhfnmins)))
unfolding execution
execution_negative e m = rw (least_negative, least_negative, side_negative e Secure m.s, side_negative e NonSecure m.ns) refl

pub negative_told : (n : ℕ) → is_negative_at (manual_priority n) ≡ nat_lt n 4
negative_told n = grind (arith, ints, nat_tests)
