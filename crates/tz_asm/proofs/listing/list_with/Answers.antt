use Rattle.std.proofs.Common.{◌≡◌, ◌∙◌, Ok, ap, arith, length, sym, ℕ, List}
use Rattle.std.proofs.lemmas.Bool.{eqb-true}
use Rattle.tz_asm.specs.Listing.{listed_from, listed_with, listing_view}
use Rattle.tz_asm.specs.Places.{places_in}
use Rattle.tz_syntax.specs.Lines.{lines_of}
use Rattle.tz_asm.proofs.Listings.{begins, ends, goes_on, stops}
use Rattle.tz_asm.proofs.Telling.{IsRefusal-same}
use Rattle.tz_asm.proofs.listing.list_with.Goals as goal

pub loop-rest-init : goal.loop-rest-init
loop-rest-init c = record {
  read = begins c.args.source.now (places_in c.args.places.now) c.start-layout.result (listing_view c.new-listing.result) c.start-layout.ensures.start c.new-listing.ensures;
  within = c.start-layout.ensures.within;
  counted = omega arith;
}

pub returns-in-Err-clause-err : goal.returns-in-Err-clause-err
returns-in-Err-clause-err c =
    let places = places_in c.args.places.now in
    let before = listing_view c.loop-rest.listing in
    IsRefusal-same c.in-Err.error (listed_with c.args.source.now places) (listed_from c.loop-rest.line places c.loop-rest.layout before (lines_of c.loop-rest.rest.now)) c.loop-rest.invariant.read
    (stops c.in-Err.error c.loop-rest.line places c.loop-rest.layout before c.loop-rest.rest.now c.first_line.result.0.now c.first_line.result.1.now c.first_line.ensures.lines c.in-Err.ensures.err)

pub loop-rest-preserved : goal.loop-rest-preserved
loop-rest-preserved c =
    let shorter = c.first_line.ensures.shorter in
    record {
      read = c.loop-rest.invariant.read
          ∙ goes_on c.loop-rest.line (places_in c.args.places.now) c.loop-rest.layout c.in-Ok.next (listing_view c.loop-rest.listing) (listing_view c.list_turn.new.listing) c.loop-rest.rest.now
          c.first_line.result.0.now c.first_line.result.1.now c.first_line.ensures.lines c.in-Ok.ensures.ok;
      within = c.in-Ok.ensures.within;
      counted = omega arith;
    }

pub returns-in-Ok-whole-clause-ok : goal.returns-in-Ok-whole-clause-ok
returns-in-Ok-whole-clause-ok c =
    let none : length c.loop-rest.rest.now ≡ 0 = eqb-true (length c.loop-rest.rest.now) 0 (sym c.is_empty.ensures ∙ c.loop-rest-test.false) in
    c.loop-rest.invariant.read ∙ ends c.loop-rest.line (places_in c.args.places.now) c.loop-rest.layout (listing_view c.loop-rest.listing) c.loop-rest.rest.now none
    ∙ ap (λ (x : List ℕ). Ok x) (sym c.in-Ok-whole.ensures)
