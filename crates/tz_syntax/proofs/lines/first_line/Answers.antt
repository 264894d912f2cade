use Rattle.std.proofs.Common.{◌∙◌, ◌+◌, ◌∷◌, ap, sym, List, ℕ, take, arith}
use Rattle.std.proofs.lemmas.List.{take_rest}
use Rattle.tz_syntax.specs.Lines.{lines_of}
use Rattle.tz_syntax.proofs.LineTurns.{lines_of-feed, lines_of-last}
use Rattle.tz_syntax.proofs.lines.first_line.Goals as goal
use Rattle.std.proofs.Common.{rules, tests}
use Rattle.std.proofs.lemmas.Grind.{common_steps, elements}

pub returns-then-end-text-clause-lines : goal.returns-then-end-text-clause-lines
returns-then-end-text-clause-lines c =
    let e = c.feed_at-end.ensures in
    let text = c.args.text.now in
    let first = take c.feed_at-end.result text in
    lines_of-feed text c.feed_at-end.result c.if-end-text.true e.before (e.found c.if-end-text.true)
    ∙ ap (λ (rest : List ℕ). first ∷ lines_of rest) (sym (take_rest text (c.feed_at-end.result + 1)))

pub returns-else-end-text-clause-lines : goal.returns-else-end-text-clause-lines
returns-else-end-text-clause-lines c =
    lines_of-last c.args.text.now c.requires (λ j h. c.feed_at-end.ensures.before j (omega arith))

-- What the tactics try, by name: a body that is refused is then told without a search for what to offer.
pub returns-then-end-text-clause-shorter : goal.returns-then-end-text-clause-shorter
returns-then-end-text-clause-shorter c = first_of (assumption, search (tests, rules), grind (arith, common_steps), grind (arith, elements))

pub returns-else-end-text-clause-shorter : goal.returns-else-end-text-clause-shorter
returns-else-end-text-clause-shorter c = first_of (assumption, search (tests, rules), grind (arith, common_steps), grind (arith, elements))
