use Rattle.std.proofs.Common.{◌≡◌, ap, ◌+◌, ◌∙◌, arith}
use Rattle.tz_state.specs.Pieces.{bits_below}
use Rattle.tz_state.specs.NvicRegisters.{seen_bit}
use Rattle.tz_scs.proofs.interrupts.seen_bits.Goals as goal

pub returns : goal.returns
returns c =
    let e : c.loop-bit.bit ≡ 32 = omega arith in
    c.loop-bit.invariant ∙ ap (bits_below (λ k. seen_bit c.args.side c.args.exceptions.now c.args.bank (c.args.first + k))) e
