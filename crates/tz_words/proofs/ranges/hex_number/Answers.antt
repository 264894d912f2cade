use Rattle.std.proofs.Common.{arith}
use Rattle.tz_words.proofs.Cuts.{few_digits}
use Rattle.tz_words.proofs.ranges.hex_number.Goals as goal

pub overflow_mul-number : goal.overflow_mul-number
overflow_mul-number c =
    let small = few_digits c.loop-digit.number c.loop-digit.digit-index c.loop-digit.invariant.small (omega (arith, c.loop-digit-test.true, c.requires)) in
    omega (arith, small)

pub overflow_add-number : goal.overflow_add-number
overflow_add-number c =
    let small = few_digits c.loop-digit.number c.loop-digit.digit-index c.loop-digit.invariant.small (omega (arith, c.loop-digit-test.true, c.requires)) in
    omega (arith, small, c.in-Some.ensures.value.0, c.in-Some.ensures.value.1)
