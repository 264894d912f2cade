use Rattle.std.proofs.Common.{◌≡◌, ◌∙◌, ◌<◌, List, Ok, Err, arith, length, subst, sym}
use Rattle.std.proofs.lemmas.Bool.{eqb-true}
use Rattle.tz_asm.specs.Growing.{growing_view}
use Rattle.tz_asm.specs.Places.{places_in}
use Rattle.tz_asm.specs.SecondPass.{SecondPass, SecondTurn}
use Rattle.tz_model.specs.Image.{IsImage, SegmentValue}
use Rattle.tz_asm.proofs.SecondTurns.{begins, ends, goes_on, stops}
use Rattle.tz_asm.proofs.Segments.{Fits-start, finished-few, finished-image}
use Rattle.tz_asm.proofs.Telling.{Tells-along}
use Rattle.tz_asm.proofs.second_pass.second_pass.Goals as goal

pub loop-rest-init : goal.loop-rest-init
loop-rest-init c = record {
  rest = λ answer follows. begins c.args.source.now (places_in c.args.places.now) c.start-layout.result (growing_view c.nothing-growing.result) c.start-layout.ensures.start
      c.nothing-growing.ensures answer follows;
  within = c.start-layout.ensures.within;
  fits = Fits-start c.start-layout.result (growing_view c.nothing-growing.result) c.start-layout.ensures.start c.nothing-growing.ensures;
  counted = omega arith;
}

pub returns-in-Err-clause-err : goal.returns-in-Err-clause-err
returns-in-Err-clause-err c =
    let places = places_in c.args.places.now in
    let before = growing_view c.loop-rest.growing in
    Tells-along c.in-Err.error (λ r. SecondTurn c.loop-rest.line places c.loop-rest.layout before c.first_line.result.0.now (Err r))
    (λ r. SecondPass c.args.source.now places (Err r))
    (λ r turn. c.loop-rest.invariant.rest (Err r)
    (stops c.loop-rest.line places c.loop-rest.layout before c.loop-rest.rest.now c.first_line.result.0.now c.first_line.result.1.now c.first_line.ensures.lines r turn))
    c.in-Err.ensures.err

pub loop-rest-preserved : goal.loop-rest-preserved
loop-rest-preserved c =
    let shorter = c.first_line.ensures.shorter in
    record {
      rest = λ answer follows. c.loop-rest.invariant.rest answer
          (goes_on c.loop-rest.line (places_in c.args.places.now) c.loop-rest.layout c.in-Ok.next (growing_view c.loop-rest.growing) (growing_view c.second_turn.new.growing)
          c.loop-rest.rest.now c.first_line.result.0.now c.first_line.result.1.now c.first_line.ensures.lines c.in-Ok.ensures.ok answer follows);
      within = c.in-Ok.ensures.within;
      fits = c.in-Ok.ensures.fits;
      counted = omega arith;
    }

pub returns-in-Ok-segments-clause-ok : goal.returns-in-Ok-segments-clause-ok
returns-in-Ok-segments-clause-ok c =
    let places = places_in c.args.places.now in
    let none : length c.loop-rest.rest.now ≡ 0 = eqb-true (length c.loop-rest.rest.now) 0 (sym c.is_empty.ensures ∙ c.loop-rest-test.false) in
    let Is : List SegmentValue → Type 0 = λ segments. SecondPass c.args.source.now places (Ok segments) in
    subst Is (sym c.in-Ok-segments.ensures)
    (c.loop-rest.invariant.rest _ (ends c.loop-rest.line places c.loop-rest.layout (growing_view c.loop-rest.growing) c.loop-rest.rest.now none))

pub returns-in-Ok-segments-clause-image : goal.returns-in-Ok-segments-clause-image
returns-in-Ok-segments-clause-image c =
    let Is : List SegmentValue → Type 0 = λ segments. IsImage segments in
    subst Is (sym c.in-Ok-segments.ensures)
    (finished-image c.loop-rest.layout (growing_view c.loop-rest.growing) c.loop-rest.invariant.within c.loop-rest.invariant.fits)

pub returns-in-Ok-segments-clause-few : goal.returns-in-Ok-segments-clause-few
returns-in-Ok-segments-clause-few c =
    let Is : List SegmentValue → Type 0 = λ segments. length segments < 65536 in
    subst Is (sym c.in-Ok-segments.ensures)
    (finished-few c.loop-rest.layout (growing_view c.loop-rest.growing) c.loop-rest.invariant.within c.loop-rest.invariant.fits)
