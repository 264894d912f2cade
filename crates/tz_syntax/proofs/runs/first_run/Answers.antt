use Rattle.std.proofs.Common.{◌∙◌, [], List, ap, sym, take, ℕ, arith}
use Rattle.std.proofs.lemmas.List.{take_rest}
use Rattle.tz_syntax.specs.Tokens.{end_run, tokens_behind}
use Rattle.tz_syntax.proofs.Turns.{run_all, run_ends, run_more}
use Rattle.std.proofs.lemmas.Grind.{common_steps}
use Rattle.tz_syntax.proofs.runs.first_run.Goals as goal

pub returns-then-not-is_word_byte-clause-tokens : goal.returns-then-not-is_word_byte-clause-tokens
returns-then-not-is_word_byte-clause-tokens c =
    let line = c.args.line.now in
    let place = c.loop-place.place in
    c.loop-place.invariant ∙ run_ends line place c.loop-place-test.true (sym c.if-not-is_word_byte.ensures)
    ∙ ap (λ (rest : List ℕ). end_run (take place line) (tokens_behind [] rest)) (sym (take_rest line place))

pub loop-place-preserved : goal.loop-place-preserved
loop-place-preserved c = c.loop-place.invariant ∙ run_more c.args.line.now c.loop-place.place c.loop-place-test.true (sym c.if-not-is_word_byte.ensures)

pub returns-clause-tokens : goal.returns-clause-tokens
returns-clause-tokens c = c.loop-place.invariant ∙ run_all c.args.line.now c.loop-place.place c.loop-place-test.false

-- The first call that the prover tries finds nothing at these goals, after long: the one that does is named.
pub returns-clause-some : goal.returns-clause-some
returns-clause-some c = grind (arith, common_steps)

pub returns-clause-shorter : goal.returns-clause-shorter
returns-clause-shorter c = grind (arith, common_steps)
