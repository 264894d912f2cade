use Rattle.std.proofs.Common.{◌∙◌}
use Rattle.std.proofs.lemmas.Result.{IfErr-weaker, IfOk-weaker}
use Rattle.tz_asm.specs.Places.{places_in}
use Rattle.tz_asm.specs.Reading.{at_line, said}
use Rattle.tz_asm.specs.SourceLines.{line_of}
use Rattle.tz_asm.specs.Views.{found_view, line_view, views}
use Rattle.tz_asm.proofs.FirstTurns.{turned, undefined, unequated, unplaced, unsaid}
use Rattle.tz_asm.proofs.Readings.{said-of}
use Rattle.tz_asm.proofs.Telling.{IsRefusal-same}
use Rattle.tz_asm.proofs.first_pass.first_turn.Goals as goal

pub returns-in-Err-clause-err : goal.returns-in-Err-clause-err
returns-in-Err-clause-err c = unsaid c.in-Err.error c.args.line (places_in c.args.places.now) c.args.layout c.args.text.now c.in-Err.ensures.err

pub returns-in-Err-said_by-clause-err : goal.returns-in-Err-said_by-clause-err
returns-in-Err-said_by-clause-err c =
    let reads = said-of c.args.line c.args.text.now c.tokens_in.new.tokens.items c.as_slice.result.now c.in-Ok.found c.tokens_in.new.bytes.items c.as_slice-2.result.now c.in-Ok.ensures.ok c.as_slice.ensures.value c.as_slice-2.ensures.value in
    unsaid c.in-Err-said_by.error c.args.line (places_in c.args.places.now) c.args.layout c.args.text.now
    (IsRefusal-same c.in-Err-said_by.error (said c.args.line c.args.text.now) (at_line c.args.line (line_of (views c.as_slice.result.now) (found_view c.in-Ok.found c.as_slice-2.result.now))) reads c.in-Err-said_by.ensures.err)

pub returns-in-Err-define-clause-err : goal.returns-in-Err-define-clause-err
returns-in-Err-define-clause-err c =
    let reads = said-of c.args.line c.args.text.now c.tokens_in.new.tokens.items c.as_slice.result.now c.in-Ok.found c.tokens_in.new.bytes.items c.as_slice-2.result.now c.in-Ok.ensures.ok c.as_slice.ensures.value c.as_slice-2.ensures.value in
    undefined c.in-Err-define.error c.args.line (places_in c.args.places.now) c.args.layout c.args.text.now (line_view c.in-Ok-said_by.said) (reads ∙ c.in-Ok-said_by.ensures.ok) c.in-Err-define.ensures.err

pub returns-in-Err-equate-clause-err : goal.returns-in-Err-equate-clause-err
returns-in-Err-equate-clause-err c =
    let reads = said-of c.args.line c.args.text.now c.tokens_in.new.tokens.items c.as_slice.result.now c.in-Ok.found c.tokens_in.new.bytes.items c.as_slice-2.result.now c.in-Ok.ensures.ok c.as_slice.ensures.value c.as_slice-2.ensures.value in
    unequated c.in-Err-equate.error c.args.line (places_in c.args.places.now) (places_in c.define.new.places) c.args.layout c.args.text.now (line_view c.in-Ok-said_by.said)
    (reads ∙ c.in-Ok-said_by.ensures.ok) c.in_default.ensures.ok c.in-Err-equate.ensures.err

pub returns-clause-ok : goal.returns-clause-ok
returns-clause-ok c =
    let reads = said-of c.args.line c.args.text.now c.tokens_in.new.tokens.items c.as_slice.result.now c.in-Ok.found c.tokens_in.new.bytes.items c.as_slice-2.result.now c.in-Ok.ensures.ok c.as_slice.ensures.value c.as_slice-2.ensures.value in
    IfOk-weaker c.advance.result _ _
    (λ next is. turned c.args.line (places_in c.args.places.now) (places_in c.define.new.places) (places_in c.equate.new.places) c.args.layout next c.args.text.now (line_view c.in-Ok-said_by.said) (reads ∙ c.in-Ok-said_by.ensures.ok)
    c.in_default.ensures.ok c.in_default-equate.ensures.ok is)
    c.advance.ensures.ok

pub returns-clause-err : goal.returns-clause-err
returns-clause-err c =
    let reads = said-of c.args.line c.args.text.now c.tokens_in.new.tokens.items c.as_slice.result.now c.in-Ok.found c.tokens_in.new.bytes.items c.as_slice-2.result.now c.in-Ok.ensures.ok c.as_slice.ensures.value c.as_slice-2.ensures.value in
    IfErr-weaker c.advance.result _ _
    (λ e h. unplaced e c.args.line (places_in c.args.places.now) (places_in c.define.new.places) (places_in c.equate.new.places) c.args.layout c.args.text.now (line_view c.in-Ok-said_by.said) (reads ∙ c.in-Ok-said_by.ensures.ok)
    c.in_default.ensures.ok c.in_default-equate.ensures.ok h)
    c.advance.ensures.err
