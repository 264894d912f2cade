use Rattle.std.proofs.Common.{None, Some, sym}
use Rattle.tz_syntax.specs.Views.{token_view}
use Rattle.tz_syntax.proofs.Turns.{at_blank, at_mark, at_none, run_token}
use Rattle.tz_syntax.proofs.token.first_token.Goals as goal

pub returns-in-None-clause-tokens : goal.returns-in-None-clause-tokens
returns-in-None-clause-tokens c =
    run_token c.args.line.now c.first_run.result.0.now c.first_run.result.1.now None c.first_run.ensures.tokens c.first_run.ensures.some c.in-None.ensures

pub returns-in-Some-clause-tokens : goal.returns-in-Some-clause-tokens
returns-in-Some-clause-tokens c =
    run_token c.args.line.now c.first_run.result.0.now c.first_run.result.1.now (Some (token_view c.in-Some.token)) c.first_run.ensures.tokens c.first_run.ensures.some c.in-Some.ensures

pub returns-then-is_blank-clause-tokens : goal.returns-then-is_blank-clause-tokens
returns-then-is_blank-clause-tokens c = at_blank c.args.line.now c.requires (sym c.if-is_word_byte.ensures) (sym c.if-is_blank.ensures)

pub returns-then-is_mark-clause-tokens : goal.returns-then-is_mark-clause-tokens
returns-then-is_mark-clause-tokens c = at_mark c.args.line.now c.requires (sym c.if-is_word_byte.ensures) (sym c.if-is_blank.ensures) (sym c.if-is_mark.ensures)

pub returns-else-is_mark-clause-tokens : goal.returns-else-is_mark-clause-tokens
returns-else-is_mark-clause-tokens c = at_none c.args.line.now c.requires (sym c.if-is_word_byte.ensures) (sym c.if-is_blank.ensures) (sym c.if-is_mark.ensures)
