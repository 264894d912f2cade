use Rattle.std.proofs.Common.{◌≡◌, ◌∙◌, ◌+◌, ◌*◌, ℕ, ap, arith, drop, get_or, length, refl, sym}
use Rattle.std.proofs.lemmas.Bool.{eqb-false, eqb-true}
use Rattle.std.specs.Char.{digit_value}
use Rattle.tz_syntax.specs.Tokens.{digits_from, in_32_bits}
use Rattle.tz_syntax.proofs.Numbers.{digit_more, digit_none, digits_all, number_in-none, number_in-some, stays_long, short_enough}
use Rattle.tz_syntax.proofs.number.number_in.Goals as goal

pub returns-then-is_empty : goal.returns-then-is_empty
returns-then-is_empty c = number_in-none c.args.base c.args.digits.now (eqb-true (length c.args.digits.now) 0 (sym c.if-is_empty.ensures))

pub returns-in-None : goal.returns-in-None
returns-in-None c =
    let base = c.args.base in
    let digits = c.args.digits.now in
    number_in-some base digits (omega arith) ∙ c.loop-byte.invariant.read
    ∙ ap in_32_bits (digit_none base c.loop-byte.number digits c.loop-byte.byte-index c.loop-byte-test.true c.in-None.ensures.value)

-- the next number, as it is computed
next : (base same number value digit first : ℕ) → same ≡ base → first ≡ value → value ≡ digit → base * number + digit ≡ same * number + first
next base same number value digit first b f v = rw (b, f, v) refl

pub returns-then-number-from : goal.returns-then-number-from
returns-then-number-from c =
    let base = c.args.base in
    let digits = c.args.digits.now in
    let here = c.in-Some.ensures.value in
    let is = next base c.from.result c.loop-byte.number c.in-Some.value (digit_value (get_or digits c.loop-byte.byte-index 0)) c.from-in-Some.result c.from.ensures c.from-in-Some.ensures here.1 in
    let max = c.from-in-loop-byte.ensures in
    let over = c.if-number-from.true in
    number_in-some base digits (omega arith) ∙ c.loop-byte.invariant.read
    ∙ ap in_32_bits (digit_more base c.loop-byte.number digits c.loop-byte.byte-index c.loop-byte-test.true here.0)
    ∙ stays_long base (base * c.loop-byte.number + digit_value (get_or digits c.loop-byte.byte-index 0)) (drop (c.loop-byte.byte-index + 1) digits)
    (omega arith) (omega (arith, is, max, over))

pub loop-byte-preserved : goal.loop-byte-preserved
loop-byte-preserved c =
    let base = c.args.base in
    let digits = c.args.digits.now in
    let here = c.in-Some.ensures.value in
    let is = next base c.from.result c.loop-byte.number c.in-Some.value (digit_value (get_or digits c.loop-byte.byte-index 0)) c.from-in-Some.result c.from.ensures c.from-in-Some.ensures here.1 in
    let max = c.from-in-loop-byte.ensures in
    let fits = c.if-number-from.false in
    record {
      read = c.loop-byte.invariant.read
          ∙ ap in_32_bits (digit_more base c.loop-byte.number digits c.loop-byte.byte-index c.loop-byte-test.true here.0)
          ∙ ap (λ (n : ℕ). in_32_bits (digits_from base n (drop (c.loop-byte.byte-index + 1) digits))) is;
      small = omega (arith, max, fits);
    }

pub returns : goal.returns
returns c =
    let base = c.args.base in
    let digits = c.args.digits.now in
    number_in-some base digits (omega (arith, eqb-false (length digits) 0 (sym c.if-is_empty.ensures))) ∙ c.loop-byte.invariant.read
    ∙ ap in_32_bits (digits_all base c.loop-byte.number digits c.loop-byte.byte-index c.loop-byte-test.false)
    ∙ short_enough c.loop-byte.number c.loop-byte.invariant.small
