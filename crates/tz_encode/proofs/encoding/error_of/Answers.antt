use Rattle.std.proofs.Common.{length, subst, sym, Err}
use Rattle.tz_encode.proofs.Outcomes.{encoded_no_form, encoded_range, named}
use Rattle.tz_encode.proofs.encoding.error_of.Goals as goal
use Rattle.tz_encode.specs.Search.{Found}
use Rattle.tz_table.specs.Table.{rows}

pub returns-in-None : goal.returns-in-None
returns-in-None c = encoded_no_form c.args.width c.args.insn.now (subst (λ b. Found rows c.args.width c.args.insn.now (length rows) (Err b)) c.in-None.is c.requires)

pub returns-in-Some-field_name : goal.returns-in-Some-field_name
returns-in-Some-field_name c =
    let found = subst (λ b. Found rows c.args.width c.args.insn.now (length rows) (Err b)) c.in-Some.is c.requires in
    encoded_range c.args.width c.args.insn.now c.in-Some.number c.in-Some-field_name.name found (sym c.in-Some-field_name.ensures)

pub returns-in-None-field_name : goal.returns-in-None-field_name
returns-in-None-field_name c =
    let found = subst (λ b. Found rows c.args.width c.args.insn.now (length rows) (Err b)) c.in-Some.is c.requires in
    absurd (named c.args.width c.args.insn.now c.in-Some.number found (sym c.in-None-field_name.ensures))
