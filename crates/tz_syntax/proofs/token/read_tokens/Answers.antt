use Rattle.std.proofs.Common.{◌∙◌, length, map, sym}
use Rattle.std.proofs.lemmas.Bool.{eqb-true}
use Rattle.tz_syntax.specs.Views.{token_view}
use Rattle.tz_syntax.proofs.Turns.{tokens_of-none}
use Rattle.tz_syntax.proofs.token.read_tokens.Goals as goal
use Rattle.std.proofs.Common.{arith, rules, tests}
use Rattle.std.proofs.lemmas.Grind.{common_steps, elements}

pub returns : goal.returns
returns c =
    c.loop-rest.invariant
    ∙ tokens_of-none c.loop-rest.rest.now (map token_view c.loop-rest.tokens.items) (eqb-true (length c.loop-rest.rest.now) 0 (sym c.is_empty.ensures ∙ c.loop-rest-test.false))

-- What the tactics try, by name: a body that is refused is then told without a search for what to offer.
pub returns-in_default : goal.returns-in_default
returns-in_default c = first_of (assumption, search (tests, rules), grind (arith, common_steps), grind (arith, elements))

pub returns-in_err-push : goal.returns-in_err-push
returns-in_err-push c = first_of (assumption, search (tests, rules), grind (arith, common_steps), grind (arith, elements))

pub loop-rest-preserved : goal.loop-rest-preserved
loop-rest-preserved c = first_of (assumption, search (tests, rules), grind (arith, common_steps), grind (arith, elements))
