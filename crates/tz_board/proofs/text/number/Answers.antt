use Rattle.std.proofs.Common.{◌∙◌, ◌+◌, ◌*◌, ◌^◌, ◌<◌, ◌≤◌, ℕ, arith, ap, drop, length, sym}
use Rattle.std.proofs.lemmas.Bool.{eqb-false, eqb-true}
use Rattle.tz_board.specs.Scripts.{digits_from}
use Rattle.tz_board.proofs.Digits.{all_digits, fits_eight, longer, no_digit, number_of-digits, number_of-long, number_of-none, one_digit}
use Rattle.tz_board.proofs.text.number.Goals as goal
use Rattle.tz_board.proofs.text.number.Goals.{then-is_empty-via-then-is_empty, then-is_empty-via-else-is_empty+then-part-gt8}

pub returns-then-is_empty : goal.returns-then-is_empty
returns-then-is_empty c =
    elim c.then-is_empty.branch [
      | then-is_empty-via-then-is_empty w ↦ number_of-none c.args.part.now (eqb-true (length c.args.part.now) 0 (sym w.if-is_empty.ensures))
      | then-is_empty-via-else-is_empty+then-part-gt8 w ↦ number_of-long c.args.part.now (omega arith)
    ]

pub returns-then-not-is_ascii_digit : goal.returns-then-not-is_ascii_digit
returns-then-not-is_ascii_digit c =
    number_of-digits c.args.part.now (omega arith) (omega arith)
    ∙ c.loop-b.invariant.read
    ∙ no_digit c.args.part.now c.loop-b.b-index c.loop-b.number c.loop-b-test.true (sym c.if-not-is_ascii_digit.ensures.value)

pub overflow_mul-number : goal.overflow_mul-number
overflow_mul-number c =
    let small = fits_eight c.loop-b.number c.loop-b.b-index 0 c.loop-b.invariant.small (omega arith) (omega arith) in omega arith

pub overflow_add-number : goal.overflow_add-number
overflow_add-number c =
    let digit : c.from.result ≤ 9 = omega (arith, c.if-not-is_ascii_digit.ensures.cases) in
    let small : 10 * c.loop-b.number + c.from.result < 2 ^ 32 = fits_eight c.loop-b.number c.loop-b.b-index c.from.result c.loop-b.invariant.small (omega arith) digit in
    omega arith

pub loop-b-preserved : goal.loop-b-preserved
loop-b-preserved c = record {
  read = c.loop-b.invariant.read
      ∙ one_digit c.args.part.now c.loop-b.b-index c.loop-b.number c.loop-b-test.true (sym c.if-not-is_ascii_digit.ensures.value)
      ∙ ap (λ (d : ℕ). digits_from (10 * c.loop-b.number + d) (drop (c.loop-b.b-index + 1) c.args.part.now)) (sym c.from.ensures);
  small = longer c.loop-b.number c.loop-b.b-index c.from.result c.loop-b.invariant.small (omega (arith, c.if-not-is_ascii_digit.ensures.cases));
}

pub returns : goal.returns
returns c =
    number_of-digits c.args.part.now (omega (arith, eqb-false (length c.args.part.now) 0 (sym c.if-is_empty.ensures))) (omega arith)
    ∙ c.loop-b.invariant.read
    ∙ all_digits c.args.part.now c.loop-b.b-index c.loop-b.number c.loop-b-test.false
