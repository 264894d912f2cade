use Rattle.std.proofs.Common.{◌∙◌, List, Ok, ap, subst, sym, ℕ}
use Rattle.tz_asm.specs.Growing.{Fits, GrowingValue, growing_view, grown}
use Rattle.tz_asm.specs.Places.{places_in}
use Rattle.tz_asm.specs.Reading.{at_line, said}
use Rattle.tz_asm.specs.SecondPass.{SecondTurn}
use Rattle.tz_asm.specs.SourceLines.{line_of}
use Rattle.tz_asm.specs.Views.{found_view, line_view, statement_view, views}
use Rattle.tz_asm.proofs.Readings.{said-of}
use Rattle.tz_asm.proofs.SecondTurns.{turned, unplaced, unsaid, unwritten}
use Rattle.tz_asm.proofs.Segments.{advance-grown}
use Rattle.tz_asm.proofs.Telling.{IsRefusal-same}
use Rattle.tz_asm.proofs.second_pass.second_turn.Goals as goal

pub returns-in-Err-clause-err : goal.returns-in-Err-clause-err
returns-in-Err-clause-err c =
    unsaid c.in-Err.error c.args.line (places_in c.args.places.now) c.args.layout (growing_view c.args.growing.now) c.args.text.now c.in-Err.ensures.err

pub returns-in-Err-said_by-clause-err : goal.returns-in-Err-said_by-clause-err
returns-in-Err-said_by-clause-err c =
    let reads = said-of c.args.line c.args.text.now c.tokens_in.new.tokens.items c.as_slice.result.now c.in-Ok.found c.tokens_in.new.bytes.items c.as_slice-2.result.now c.in-Ok.ensures.ok c.as_slice.ensures.value c.as_slice-2.ensures.value in
    unsaid c.in-Err-said_by.error c.args.line (places_in c.args.places.now) c.args.layout (growing_view c.args.growing.now) c.args.text.now
    (IsRefusal-same c.in-Err-said_by.error (said c.args.line c.args.text.now) (at_line c.args.line (line_of (views c.as_slice.result.now) (found_view c.in-Ok.found c.as_slice-2.result.now))) reads c.in-Err-said_by.ensures.err)

pub returns-in-Err-advance-clause-err : goal.returns-in-Err-advance-clause-err
returns-in-Err-advance-clause-err c =
    let reads = said-of c.args.line c.args.text.now c.tokens_in.new.tokens.items c.as_slice.result.now c.in-Ok.found c.tokens_in.new.bytes.items c.as_slice-2.result.now c.in-Ok.ensures.ok c.as_slice.ensures.value c.as_slice-2.ensures.value in
    unplaced c.in-Err-advance.error c.args.line (places_in c.args.places.now) c.args.layout (growing_view c.args.growing.now) c.args.text.now (line_view c.in-Ok-said_by.said)
    (reads ∙ c.in-Ok-said_by.ensures.ok) c.in-Err-advance.ensures.err

pub returns-in-Err-write_statement-clause-err : goal.returns-in-Err-write_statement-clause-err
returns-in-Err-write_statement-clause-err c =
    let reads = said-of c.args.line c.args.text.now c.tokens_in.new.tokens.items c.as_slice.result.now c.in-Ok.found c.tokens_in.new.bytes.items c.as_slice-2.result.now c.in-Ok.ensures.ok c.as_slice.ensures.value c.as_slice-2.ensures.value in
    unwritten c.in-Err-write_statement.error c.args.line (places_in c.args.places.now) c.args.layout c.in-Ok-advance.next (growing_view c.args.growing.now) c.args.text.now
    (line_view c.in-Ok-said_by.said) (reads ∙ c.in-Ok-said_by.ensures.ok) c.in-Ok-advance.ensures.ok c.in-Err-write_statement.ensures.err

pub returns-in-Ok-grow-clause-ok : goal.returns-in-Ok-grow-clause-ok
returns-in-Ok-grow-clause-ok c =
    let reads = said-of c.args.line c.args.text.now c.tokens_in.new.tokens.items c.as_slice.result.now c.in-Ok.found c.tokens_in.new.bytes.items c.as_slice-2.result.now c.in-Ok.ensures.ok c.as_slice.ensures.value c.as_slice-2.ensures.value in
    let places = places_in c.args.places.now in
    let before = growing_view c.args.growing.now in
    let Turns : GrowingValue → Type 0 = λ g. SecondTurn c.args.line places c.args.layout before c.args.text.now (Ok (c.in-Ok-advance.next, g)) in
    let put = c.in-Ok-grow.ensures ∙ ap (λ (bytes : List ℕ). grown c.args.layout.inside c.args.layout.place bytes before) c.as_slice-3.ensures.value in
    subst Turns (sym put)
    (turned c.args.line places c.args.layout c.in-Ok-advance.next before c.args.text.now c.write_statement.new.bytes.items (line_view c.in-Ok-said_by.said) (reads ∙ c.in-Ok-said_by.ensures.ok)
    c.in-Ok-advance.ensures.ok c.in_default.ensures.ok)

pub returns-in-Ok-grow-clause-fits : goal.returns-in-Ok-grow-clause-fits
returns-in-Ok-grow-clause-fits c =
    let before = growing_view c.args.growing.now in
    let put = c.in-Ok-grow.ensures ∙ ap (λ (bytes : List ℕ). grown c.args.layout.inside c.args.layout.place bytes before) c.as_slice-3.ensures.value in
    let Fit : GrowingValue → Type 0 = λ g. Fits c.in-Ok-advance.next g in
    subst Fit (sym put)
    (advance-grown c.args.line (statement_view c.in-Ok-said_by.said.statement) c.args.layout c.in-Ok-advance.next before c.write_statement.new.bytes.items c.in-Ok-advance.ensures.ok
    c.in_default.ensures.count c.requires.fits)
