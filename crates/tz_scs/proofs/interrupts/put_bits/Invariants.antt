use Rattle.std.proofs.Common.{◌≡◌}
use Rattle.tz_state.specs.NvicRegisters.{slots_put}
use Rattle.tz_scs.proofs.interrupts.put_bits.Given as goal

-- the slots of the bits so far are written
abbrev pub invariant-loop-bit : goal.invariant-loop-bit
invariant-loop-bit l = l.exceptions ≡ record l.fn.exceptions { slots = slots_put l.side l.bank l.value l.first l.fn.exceptions l.bit }
