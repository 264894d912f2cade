use Rattle.std.proofs.Common.{◌∙◌, ap, sym, subst, Ok}
use Rattle.tz_encode.proofs.Outcomes.{again, encoded_code}
use Rattle.tz_encode.proofs.encoding.encode.Goals as goal
use Rattle.tz_encode.specs.Encoded.{EncodedIn, meaning_of}
use Rattle.tz_table.specs.Table.{rows}
use Rattle.std.proofs.Common.{arith, rules, tests}
use Rattle.std.proofs.lemmas.Grind.{common_steps, elements}

pub returns-in-Ok-clause-encoded : goal.returns-in-Ok-clause-encoded
returns-in-Ok-clause-encoded c =
    let found = c.in-Ok.ensures c.args.insn.now c.values.ensures in
    subst (λ z. EncodedIn rows c.args.width c.args.insn.now (Ok z)) (sym c.code_of_halves.ensures) (encoded_code c.args.width c.args.insn.now c.in-Ok.halves found)

pub returns-in-Ok-clause-again : goal.returns-in-Ok-clause-again
returns-in-Ok-clause-again c =
    let found = c.in-Ok.ensures c.args.insn.now c.values.ensures in
    ap meaning_of c.code_of_halves.ensures ∙ again c.args.width c.args.insn.now c.in-Ok.halves found

-- What the tactics try, by name: a body that is refused is then told without a search for what to offer.
pub returns-in-Err-clause-encoded : goal.returns-in-Err-clause-encoded
returns-in-Err-clause-encoded c = first_of (assumption, search (tests, rules), grind (arith, common_steps), grind (arith, elements))

pub returns-in-Err-clause-again : goal.returns-in-Err-clause-again
returns-in-Err-clause-again c = first_of (assumption, search (tests, rules), grind (arith, common_steps), grind (arith, elements))
