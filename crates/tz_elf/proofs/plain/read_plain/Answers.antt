use Rattle.std.proofs.Common.{◌≡◌, ◌∙◌, ◌+◌, arith, length}
use Rattle.std.proofs.lemmas.Bool.Decides.{nat_tests}
use Rattle.tz_elf.specs.Placement.{placed_in}
use Rattle.tz_syntax.specs.Lines.{lines_of}
use Rattle.tz_elf.specs.PlainImage.{segments_from}
use Rattle.tz_elf.proofs.Lines.{segments_from-first, segments_from-none}
use Rattle.tz_elf.proofs.RefusalLemmas.{IsImageRefusal-along}
use Rattle.tz_elf.proofs.plain.read_plain.Goals as goal

pub returns-in-Err-clause-err : goal.returns-in-Err-clause-err
returns-in-Err-clause-err c =
    let test = placed_in c.args.regions.now c.args.usable.now in
    let turn = segments_from-first test c.loop-rest.number c.loop-rest.placed.segments.items c.loop-rest.rest.now c.first_line.result.0.now c.first_line.result.1.now
    c.line_without_return-line.result.now c.first_line.ensures.lines c.line_without_return-line.ensures in
    IsImageRefusal-along c.in-Err.error _ _ (c.loop-rest.invariant.segments ∙ turn)
    (c.in-Err.ensures.err (λ next. segments_from test (c.loop-rest.number + 1) next (lines_of c.first_line.result.1.now)))

pub loop-rest-preserved : goal.loop-rest-preserved
loop-rest-preserved c =
    let test = placed_in c.args.regions.now c.args.usable.now in
    let turn = segments_from-first test c.loop-rest.number c.loop-rest.placed.segments.items c.loop-rest.rest.now c.first_line.result.0.now c.first_line.result.1.now
    c.line_without_return-line.result.now c.first_line.ensures.lines c.line_without_return-line.ensures in
    let shorter = c.first_line.ensures.shorter in
    let grows = c.in_default.ensures.grows in
    record {
      segments = c.loop-rest.invariant.segments ∙ turn
          ∙ c.in_default.ensures.ok (λ next. segments_from test (c.loop-rest.number + 1) next (lines_of c.first_line.result.1.now));
      kept = c.in_default.ensures.kept;
      number = omega arith;
      count = omega arith;
    }

pub returns-clause-ok : goal.returns-clause-ok
returns-clause-ok c =
    let none : length c.loop-rest.rest.now ≡ 0 = grind (arith, nat_tests) in
    c.loop-rest.invariant.segments
    ∙ segments_from-none (placed_in c.args.regions.now c.args.usable.now) c.loop-rest.number c.loop-rest.placed.segments.items c.loop-rest.rest.now none
