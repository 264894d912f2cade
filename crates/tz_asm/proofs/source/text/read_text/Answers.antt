use Rattle.std.proofs.Common.{◌∙◌, ◌+◌, List, ℕ, Some, ap, sym}
use Rattle.std.proofs.lemmas.List.{take_rest}
use Rattle.tz_asm.proofs.TextTurns.{turn_ends, turn_escapes, turn_fails, turn_none, turn_puts}
use Rattle.tz_asm.proofs.source.text.read_text.Goals.{in-Escapes, in-Puts+in_ok-push-in-Puts}
use Rattle.tz_asm.proofs.source.text.read_text.Goals as goal

pub returns-in-Ends : goal.returns-in-Ends
returns-in-Ends c =
    c.loop-place.invariant
    ∙ turn_ends c.args.line.now c.loop-place.bytes.items c.loop-place.escaped c.loop-place.place c.loop-place-test.true c.in-Ends.ensures
    ∙ ap (λ (rest : List ℕ). Some (c.loop-place.bytes.items, rest)) (sym (take_rest c.args.line.now (c.loop-place.place + 1)))

pub returns-in-Fails : goal.returns-in-Fails
returns-in-Fails c =
    c.loop-place.invariant ∙ turn_fails c.args.line.now c.loop-place.bytes.items c.loop-place.escaped c.loop-place.place c.loop-place-test.true c.in-Fails.ensures

pub loop-place-preserved : goal.loop-place-preserved
loop-place-preserved c =
    elim c.match-turn_of.branch [
      | in-Escapes w ↦
          rw (w.bytes-is, w.escaped-is)
          (c.loop-place.invariant
          ∙ turn_escapes c.args.line.now c.loop-place.bytes.items c.loop-place.escaped c.loop-place.place c.loop-place-test.true w.in-Escapes.ensures)
      | in-Puts+in_ok-push-in-Puts w ↦
          rw (w.bytes-is, w.escaped-is, w.in_ok-push-in-Puts.ensures.items)
          (c.loop-place.invariant
          ∙ turn_puts c.args.line.now c.loop-place.bytes.items c.loop-place.escaped c.loop-place.place w.in-Puts.put c.loop-place-test.true w.in-Puts.ensures)
    ]

pub returns : goal.returns
returns c =
    c.loop-place.invariant ∙ turn_none c.args.line.now c.loop-place.bytes.items c.loop-place.escaped c.loop-place.place c.loop-place-test.false
