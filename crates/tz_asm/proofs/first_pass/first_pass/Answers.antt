use Rattle.std.proofs.Common.{◌≡◌, ◌∙◌, ap, arith, length, sym}
use Rattle.std.proofs.lemmas.Bool.{eqb-true}
use Rattle.tz_asm.specs.FirstPass.{first_from, first_pass}
use Rattle.tz_asm.specs.Layouts.{start}
use Rattle.tz_asm.specs.Places.{Places, places_in}
use Rattle.tz_asm.specs.declared.layout.Layout.{Layout}
use Rattle.tz_syntax.specs.Lines.{lines_of}
use Rattle.tz_asm.proofs.FirstTurns.{ends, goes_on, stops}
use Rattle.tz_asm.proofs.Labels.{places_in-empty}
use Rattle.tz_asm.proofs.Telling.{IsRefusal-same}
use Rattle.tz_asm.proofs.first_pass.first_pass.Goals as goal

pub loop-rest-init : goal.loop-rest-init
unfolding first_pass
loop-rest-init c = record {
  read = ap (λ (places : Places). first_from 1 places start (lines_of c.args.source.now)) (sym (places_in-empty c.new-places.result c.new-places.ensures.empty))
      ∙ ap (λ (layout : Layout). first_from 1 (places_in c.new-places.result) layout (lines_of c.args.source.now)) (sym c.start-layout.ensures.start);
  within = c.start-layout.ensures.within;
  counted = omega arith;
}

pub returns-in-Err-clause-err : goal.returns-in-Err-clause-err
returns-in-Err-clause-err c =
    IsRefusal-same c.in-Err.error (first_pass c.args.source.now) (first_from c.loop-rest.line (places_in c.loop-rest.places) c.loop-rest.layout (lines_of c.loop-rest.rest.now)) c.loop-rest.invariant.read
    (stops c.in-Err.error c.loop-rest.line (places_in c.loop-rest.places) c.loop-rest.layout c.loop-rest.rest.now c.first_line.result.0.now c.first_line.result.1.now c.first_line.ensures.lines
    c.in-Err.ensures.err)

pub loop-rest-preserved : goal.loop-rest-preserved
loop-rest-preserved c =
    let shorter = c.first_line.ensures.shorter in
    record {
      read = c.loop-rest.invariant.read
          ∙ goes_on c.loop-rest.line (places_in c.loop-rest.places) (places_in c.first_turn.new.places) c.loop-rest.layout c.in-Ok.next c.loop-rest.rest.now c.first_line.result.0.now
          c.first_line.result.1.now c.first_line.ensures.lines c.in-Ok.ensures.ok;
      within = c.in-Ok.ensures.within;
      counted = omega arith;
    }

pub returns-clause-ok : goal.returns-clause-ok
returns-clause-ok c =
    let none : length c.loop-rest.rest.now ≡ 0 = eqb-true (length c.loop-rest.rest.now) 0 (sym c.is_empty.ensures ∙ c.loop-rest-test.false) in
    c.loop-rest.invariant.read ∙ ends c.loop-rest.line (places_in c.loop-rest.places) c.loop-rest.layout c.loop-rest.rest.now none
