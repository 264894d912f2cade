use Rattle.std.proofs.Common.{◌∙◌, ◌+◌, List, ℕ, Some, ap, sym, take}
use Rattle.std.proofs.lemmas.List.{take_rest}
use Rattle.tz_asm.proofs.TextTurns.{quote_comment, quote_here, quote_more, quote_none}
use Rattle.tz_asm.proofs.source.text.quoted_at.Goals as goal

pub returns-then-byte-eq59 : goal.returns-then-byte-eq59
returns-then-byte-eq59 c = sym (c.loop-place.invariant ∙ quote_comment c.args.line.now c.loop-place.place c.loop-place-test.true c.if-byte-eq59.true)

pub returns-then-byte-eq34 : goal.returns-then-byte-eq34
returns-then-byte-eq34 c =
    ap (λ (rest : List ℕ). Some (take c.loop-place.place c.args.line.now, rest)) (take_rest c.args.line.now (c.loop-place.place + 1))
    ∙ sym (c.loop-place.invariant ∙ quote_here c.args.line.now c.loop-place.place c.loop-place-test.true c.if-byte-eq59.false c.if-byte-eq34.true)

pub loop-place-preserved : goal.loop-place-preserved
loop-place-preserved c = c.loop-place.invariant ∙ quote_more c.args.line.now c.loop-place.place c.loop-place-test.true c.if-byte-eq59.false c.if-byte-eq34.false

pub returns : goal.returns
returns c = sym (c.loop-place.invariant ∙ quote_none c.args.line.now c.loop-place.place c.loop-place-test.false)
