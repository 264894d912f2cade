use Rattle.std.proofs.Common.{◌≡◌, ◌+◌}
use Rattle.tz_state.specs.Pieces.{bits_below}
use Rattle.tz_state.specs.NvicRegisters.{seen_bit}
use Rattle.tz_scs.proofs.interrupts.seen_bits.Given as goal

-- the bits so far
abbrev pub invariant-loop-bit : goal.invariant-loop-bit
invariant-loop-bit l = l.value ≡ bits_below (λ k. seen_bit l.side l.exceptions l.bank (l.first + k)) l.bit
