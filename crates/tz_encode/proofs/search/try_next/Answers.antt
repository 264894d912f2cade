use Rattle.std.proofs.Common.{◌≡◌, ◌∙◌, ◌+◌, ◌-◌, sym, arith}
use Rattle.tz_encode.proofs.Places.{row_there}
use Rattle.tz_encode.proofs.Searching.{code_found, form_missed, number_missed, other_width}
use Rattle.tz_encode.proofs.search.try_next.Goals as goal

pub returns-then-not-has_width : goal.returns-then-not-has_width
returns-then-not-has_width c = λ i e h.
    let r = row_there c.args.index c.requires in
    other_width c.args.width i c.args.index r.0 c.args.blamed r.1 (sym (c.has_width.ensures r.0 r.1) ∙ c.if-not-has_width.true) h

pub returns-in-Ok : goal.returns-in-Ok
returns-in-Ok c = λ i e h.
    let r = row_there c.args.index c.requires in
    code_found c.args.width i c.args.index r.0 c.args.blamed c.in-Ok.halves r.1 (sym (c.has_width.ensures r.0 r.1) ∙ c.if-not-has_width.false) (c.in-Ok.ensures.row i e r.0 r.1) h

pub returns-then-place-lt-FORM_VALUES : goal.returns-then-place-lt-FORM_VALUES
returns-then-place-lt-FORM_VALUES c = λ i e h.
    let r = row_there c.args.index c.requires in
    form_missed c.args.width i c.args.index r.0 c.args.blamed c.in-Err.place r.1 c.if-place-lt-FORM_VALUES.true (c.in-Err.ensures.row i e r.0 r.1) h

pub returns-else-place-lt-FORM_VALUES : goal.returns-else-place-lt-FORM_VALUES
returns-else-place-lt-FORM_VALUES c = λ i e h.
    let r = row_there c.args.index c.requires in
    let past : c.in-Err.place ≡ 5 + (c.in-Err.place - 5) = omega arith in
    number_missed c.args.width i c.args.index r.0 c.args.blamed c.in-Err.place (c.in-Err.place - 5) r.1 (sym (c.has_width.ensures r.0 r.1) ∙ c.if-not-has_width.false) (c.in-Err.ensures.row i e r.0 r.1) past h
