use Rattle.std.proofs.Common.{◌≡◌, length, sym, ◌∙◌, ap, arith, subst, of_z, w32}
use Rattle.tz_encode.specs.Codes.{Tried}
use Rattle.tz_encode.proofs.All.{all_described}
use Rattle.tz_encode.proofs.Rows.{no_row, other_variant, past_rows, row_tried, row_without_slots, sound_at}
use Rattle.tz_table.specs.Table.{rows}
use Rattle.tz_encode.proofs.trying.try_row.Goals as goal
use Rattle.std.proofs.Common.{rules, tests}
use Rattle.std.proofs.lemmas.Grind.{common_steps, elements}

pub returns-in_default-clause-row : goal.returns-in_default-clause-row
returns-in_default-clause-row c = λ i v r g. absurd (no_row rows c.args.index r (sym c.in_default.is ∙ c.row_at.ensures) g)

pub returns-then-values-from-clause-row : goal.returns-then-values-from-clause-row
returns-then-values-from-clause-row c = λ i v r g.
    let nine : length c.args.values.now ≡ 9 = omega arith in
    other_variant all_described c.args.index c.in-Some.row i c.args.values.now r (sym c.in-Some.is ∙ c.row_at.ensures) v nine g
    (λ e. c.if-values-from.true (ap (of_z w32) (e ∙ sym c.from.ensures)))

pub returns-in_default-slots_at-clause-row : goal.returns-in_default-slots_at-clause-row
returns-in_default-slots_at-clause-row c = λ i v r g. absurd (row_without_slots c.args.index r g (sym c.in_default-slots_at.is ∙ c.slots_at.ensures))

pub answer-requires : goal.answer-requires
answer-requires c = sound_at c.args.index c.in-Some-slots_at.slots (sym c.slots_at.ensures ∙ c.in-Some-slots_at.is)

pub returns-clause-row : goal.returns-clause-row
returns-clause-row c = λ i v r g.
    let nine : length c.args.values.now ≡ 9 = omega arith in
    subst (Tried r i) (sym c.answer.ensures)
    (row_tried all_described c.args.index c.in-Some.row c.in-Some-slots_at.slots i c.args.values.now r (sym c.in-Some.is ∙ c.row_at.ensures) (sym c.in-Some-slots_at.is ∙ c.slots_at.ensures) v nine g)

pub returns-clause-past : goal.returns-clause-past
returns-clause-past c = λ h. absurd (past_rows c.args.index c.in-Some.row (sym c.in-Some.is ∙ c.row_at.ensures) h)

-- What the tactics try, by name: a body that is refused is then told without a search for what to offer.
pub returns-in_default-clause-past : goal.returns-in_default-clause-past
returns-in_default-clause-past c = first_of (assumption, search (tests, rules), grind (arith, common_steps), grind (arith, elements))

pub returns-then-values-from-clause-past : goal.returns-then-values-from-clause-past
returns-then-values-from-clause-past c = first_of (assumption, search (tests, rules), grind (arith, common_steps), grind (arith, elements))

pub returns-in_default-slots_at-clause-past : goal.returns-in_default-slots_at-clause-past
returns-in_default-slots_at-clause-past c = first_of (assumption, search (tests, rules), grind (arith, common_steps), grind (arith, elements))
