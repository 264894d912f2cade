use Rattle.std.proofs.Common.{◌≡◌, ◌∙◌, List, ap, arith, length, ℕ}
use Rattle.tz_asm.specs.Layouts.{byte_count}
use Rattle.tz_asm.specs.Listing.{listing_view, noted}
use Rattle.tz_asm.specs.Places.{places_in}
use Rattle.tz_asm.specs.Reading.{at_line, said}
use Rattle.tz_asm.specs.SourceLines.{line_of}
use Rattle.tz_asm.specs.Views.{found_view, line_view, statement_view, views}
use Rattle.tz_asm.proofs.Listings.{advance-few, turned, unplaced, unsaid, unwritten}
use Rattle.tz_asm.proofs.Readings.{said-of}
use Rattle.tz_asm.proofs.Telling.{IsRefusal-same}
use Rattle.tz_asm.proofs.listing.list_turn.Goals as goal

pub returns-in-Err-clause-err : goal.returns-in-Err-clause-err
returns-in-Err-clause-err c = unsaid c.in-Err.error c.args.line (places_in c.args.places.now) c.args.layout (listing_view c.args.listing.now) c.args.text.now c.in-Err.ensures.err

pub returns-in-Err-said_by-clause-err : goal.returns-in-Err-said_by-clause-err
returns-in-Err-said_by-clause-err c =
    let reads = said-of c.args.line c.args.text.now c.tokens_in.new.tokens.items c.as_slice.result.now c.in-Ok.found c.tokens_in.new.bytes.items c.as_slice-2.result.now c.in-Ok.ensures.ok c.as_slice.ensures.value c.as_slice-2.ensures.value in
    unsaid c.in-Err-said_by.error c.args.line (places_in c.args.places.now) c.args.layout (listing_view c.args.listing.now) c.args.text.now
    (IsRefusal-same c.in-Err-said_by.error (said c.args.line c.args.text.now) (at_line c.args.line (line_of (views c.as_slice.result.now) (found_view c.in-Ok.found c.as_slice-2.result.now))) reads c.in-Err-said_by.ensures.err)

pub returns-in-Err-advance-clause-err : goal.returns-in-Err-advance-clause-err
returns-in-Err-advance-clause-err c =
    let reads = said-of c.args.line c.args.text.now c.tokens_in.new.tokens.items c.as_slice.result.now c.in-Ok.found c.tokens_in.new.bytes.items c.as_slice-2.result.now c.in-Ok.ensures.ok c.as_slice.ensures.value c.as_slice-2.ensures.value in
    unplaced c.in-Err-advance.error c.args.line (places_in c.args.places.now) c.args.layout (listing_view c.args.listing.now) c.args.text.now (line_view c.in-Ok-said_by.said) (reads ∙ c.in-Ok-said_by.ensures.ok)
    c.in-Err-advance.ensures.err

pub returns-in-Err-write_statement-clause-err : goal.returns-in-Err-write_statement-clause-err
returns-in-Err-write_statement-clause-err c =
    let reads = said-of c.args.line c.args.text.now c.tokens_in.new.tokens.items c.as_slice.result.now c.in-Ok.found c.tokens_in.new.bytes.items c.as_slice-2.result.now c.in-Ok.ensures.ok c.as_slice.ensures.value c.as_slice-2.ensures.value in
    unwritten c.in-Err-write_statement.error c.args.line (places_in c.args.places.now) c.args.layout c.in-Ok-advance.next (listing_view c.args.listing.now) c.args.text.now (line_view c.in-Ok-said_by.said)
    (reads ∙ c.in-Ok-said_by.ensures.ok) c.in-Ok-advance.ensures.ok c.in-Err-write_statement.ensures.err

pub note-requires-clause-few : goal.note-requires-clause-few
note-requires-clause-few c =
    let few = advance-few c.args.line (statement_view c.in-Ok-said_by.said.statement) c.args.layout c.in-Ok-advance.next c.in-Ok-advance.ensures.ok in
    let count : length c.as_slice-3.result.now ≡ byte_count c.args.layout.place (statement_view c.in-Ok-said_by.said.statement) = ap length c.as_slice-3.ensures.value ∙ c.in_default.ensures.count in
    omega (arith, few, count)

pub note-requires-clause-placed : goal.note-requires-clause-placed
note-requires-clause-placed c some =
    let fits = c.in-Ok-advance.ensures.fits in
    let count : length c.as_slice-3.result.now ≡ byte_count c.args.layout.place (statement_view c.in-Ok-said_by.said.statement) = ap length c.as_slice-3.ensures.value ∙ c.in_default.ensures.count in
    omega (arith, fits, count, some)

pub returns-in-Ok-note-clause-ok : goal.returns-in-Ok-note-clause-ok
returns-in-Ok-note-clause-ok c =
    let reads = said-of c.args.line c.args.text.now c.tokens_in.new.tokens.items c.as_slice.result.now c.in-Ok.found c.tokens_in.new.bytes.items c.as_slice-2.result.now c.in-Ok.ensures.ok c.as_slice.ensures.value c.as_slice-2.ensures.value in
    let before = listing_view c.args.listing.now in
    let put = c.in-Ok-note.ensures ∙ ap (λ (bytes : List ℕ). noted (places_in c.args.places.now) c.args.layout.place (line_view c.in-Ok-said_by.said) bytes c.args.text.now before) c.as_slice-3.ensures.value in
    turned c.args.line (places_in c.args.places.now) c.args.layout c.in-Ok-advance.next before (listing_view c.note.new.self) c.args.text.now c.write_statement.new.bytes.items (line_view c.in-Ok-said_by.said)
    (reads ∙ c.in-Ok-said_by.ensures.ok) c.in-Ok-advance.ensures.ok c.in_default.ensures.ok put
