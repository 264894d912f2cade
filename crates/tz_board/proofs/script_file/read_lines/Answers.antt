use Rattle.std.proofs.Common.{◌∙◌, List, ap, arith, length, sym}
use Rattle.std.proofs.lemmas.Bool.{eqb-true}
use Rattle.std.proofs.lemmas.List.{length-append}
use Rattle.std.proofs.lemmas.Result.{IfErr-weaker, IfOk-weaker}
use Rattle.tz_board.specs.Scripts.{Timed, script_lines, script_from, script_of}
use Rattle.tz_board.proofs.ScriptLines.{goes_on, last_line, no_line, stops}
use Rattle.tz_board.proofs.script_file.read_lines.Goals as goal

pub loop-line-init : goal.loop-line-init
unfolding script_of
loop-line-init c = record {
  read = ap (λ (events : List Timed). script_from c.args.interrupts 1 events (script_lines c.args.bytes.now)) (sym c.none-script.ensures);
  counted = omega arith;
}

pub returns-in-Err-clause-err : goal.returns-in-Err-clause-err
returns-in-Err-clause-err c =
    rw c.loop-line.invariant.read
    (stops c.in-Err.error c.args.interrupts c.loop-line.number c.loop-line.script c.loop-line.rest.now c.in-Some.line.now c.in-Some.back.now c.in-Some.ensures.0 c.in-Some.ensures.1
    (rw c.chomp.ensures at c.in-Err.ensures.err))

pub loop-line-preserved : goal.loop-line-preserved
loop-line-preserved c = record {
  read = c.loop-line.invariant.read
      ∙ goes_on c.args.interrupts c.loop-line.number c.loop-line.script c.in-Ok.longer c.loop-line.rest.now c.in-Some.line.now c.in-Some.back.now c.in-Some.ensures.0 c.in-Some.ensures.1
      (rw c.chomp.ensures at c.in-Ok.ensures.ok);
  counted = omega (arith, simp length-append at (ap length c.in-Some.ensures.0));
}

pub returns-then-is_empty-clause-ok : goal.returns-then-is_empty-clause-ok
returns-then-is_empty-clause-ok c =
    c.loop-line.invariant.read
    ∙ no_line c.args.interrupts c.loop-line.number c.loop-line.script c.loop-line.rest.now (eqb-true (length c.loop-line.rest.now) 0 (sym c.if-is_empty.ensures))

pub returns-clause-ok : goal.returns-clause-ok
returns-clause-ok c =
    let same = c.loop-line.invariant.read ∙ last_line c.args.interrupts c.loop-line.number c.loop-line.script c.loop-line.rest.now c.in_default.ensures in
    IfOk-weaker c.with_line-2.result _ _ (λ s h. same ∙ h) c.with_line-2.ensures.ok

pub returns-clause-err : goal.returns-clause-err
returns-clause-err c =
    let same = c.loop-line.invariant.read ∙ last_line c.args.interrupts c.loop-line.number c.loop-line.script c.loop-line.rest.now c.in_default.ensures in
    IfErr-weaker c.with_line-2.result _ _ (λ e h. rw same h) c.with_line-2.ensures.err
