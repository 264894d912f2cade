use Rattle.std.proofs.Common.{◌≡◌, ap, ◌∙◌, ℕ, arith}
use Rattle.tz_state.specs.NvicRegisters.{slots_put}
use Rattle.tz_scs.proofs.interrupts.put_bits.Goals as goal

pub returns : goal.returns
returns c =
    let e : c.loop-bit.bit ≡ 32 = omega arith in
    c.loop-bit.invariant ∙ ap (λ (k : ℕ). record c.args.exceptions.now { slots = slots_put c.args.side c.args.bank c.args.value c.args.first c.args.exceptions.now k }) e
