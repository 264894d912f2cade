use Rattle.std.proofs.Common.{arith}
use Rattle.tz_bits.proofs.Signed.{signed_shifts}
use Rattle.tz_bits.proofs.shifts.signed_carry.Goals as goal

-- The call that closes each goal, by name: what is tried before it finds nothing, after long.
pub returns-then-value-lt2147483648 : goal.returns-then-value-lt2147483648
returns-then-value-lt2147483648 c = grind (arith, signed_shifts)

pub returns-else-value-lt2147483648 : goal.returns-else-value-lt2147483648
returns-else-value-lt2147483648 c = grind (arith, signed_shifts)
